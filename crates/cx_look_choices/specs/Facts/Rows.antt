-- Of each state one row is written, and one text.
use Rattle.std.proofs.Common.{◌≡◌, ℕ, zero, suc, ◌<◌, List, ◌++◌, length, Bool, true, false, Option, Some, None, inl, inr, ap, refl, sym, subst, ◌∙◌, arith}
use Rattle.std.specs.Prelude.{MatchBool, slice_get}
use Rattle.std.proofs.lemmas.Bool.{cases_order}
use Rattle.std.proofs.lemmas.Option.{same_Some}
use Rattle.cx_search.specs.Laws.{SoonerOrders}
use Rattle.cx_search.specs.Moves.{IsFirst, IsSooner}
use Rattle.cx_look_lines.specs.Words.{Lines}
use Rattle.cx_look_tasks.specs.Laws.{WaitsTextsDecide}
use Rattle.cx_region.specs.State.{RegionState}
use Rattle.cx_orders.specs.declared.states.KeyLine.{KeyLine}
use Rattle.cx_choices.specs.Laws.{PassagesDecide}
use Rattle.cx_choices.specs.Moves.{Chooses, Goes, begun, numbered}
use Rattle.cx_choices.specs.Settling.{IsAtRest}
use Rattle.cx_choices.specs.declared.states.ChoicesState.{ChoicesState}
use Rattle.cx_choices.specs.declared.states.Passage.{Passage}
use Rattle.cx_look_steps.specs.Facts.Lists.{same_lists}
use Rattle.cx_look_steps.specs.Facts.Items.{item_too, same_items}
use Rattle.cx_look_steps.specs.Facts.Soonest.{both_soonest}
use Rattle.cx_look_choices.specs.Presses.{moves_of}
use Rattle.cx_look_choices.specs.Rows.{AreArrows, AreRows, AreSameKeys, AreScreens, Differs, IsArrow, IsPlace, IsRow, IsSameList, passage_incidents}
use Rattle.cx_look_choices.specs.States.{StateText, running_line}
use Rattle.cx_look_choices.specs.declared.rows.Arrow.{Arrow}
use Rattle.cx_look_choices.specs.declared.rows.StateRow.{StateRow}
use Rattle.cx_look_choices.specs.Facts.Presses.{presses_decide, presses_lead, same_state}

-- ---- texts
rest_decides : (region : RegionState) (one other : Bool) → MatchBool one (IsAtRest region → ⊥) (IsAtRest region)
    → MatchBool other (IsAtRest region → ⊥) (IsAtRest region) → one ≡ other
rest_decides region true true p q = refl
rest_decides region false false p q = refl
rest_decides region true false p q = absurd (p q)
rest_decides region false true p q = absurd (q p)

module _ (waits : WaitsTextsDecide) (Shows : RegionState → Lines → Type 0)
    (shown : (region : RegionState) (one other : Lines) → Shows region one → Shows region other → one ≡ other) where
  pub text_decides : (state : ChoicesState) (one other : Lines) → StateText Shows state one
      → StateText Shows state other → one ≡ other
  text_decides state one other is too =
      is.is
      ∙ ap (λ (w : Lines). w ++ running_line is.is_running ++ is.sight)
      (waits state.region is.waits too.waits is.waiting too.waiting)
      ∙ ap (λ b. too.waits ++ running_line b ++ is.sight)
      (rest_decides state.region is.is_running too.is_running is.running too.running)
      ∙ ap (λ (s : Lines). too.waits ++ running_line too.is_running ++ s)
      (shown state.region is.sight too.sight is.seen too.seen)
      ∙ sym too.is

-- ---- numbers of texts, in the order in which they come first
-- where two lists of rows have one text at each place
abbrev pub HaveTexts : List Lines → List Lines → List StateRow → List StateRow → Type 0
HaveTexts ts us ones others = (k : ℕ) (one other : StateRow) → slice_get ones k ≡ Some one
    → slice_get others k ≡ Some other
    → (text : Lines) × ((slice_get ts one.screen ≡ Some text) × (slice_get us other.screen ≡ Some text))

turned_about : (ts us : List Lines) (ones others : List StateRow) → HaveTexts ts us ones others
    → HaveTexts us ts others ones
turned_about ts us ones others have k other one there at =
    let it = have k one other at there in (it.0, (it.1.1, it.1.0))

not_lower : (ts us : List Lines) (ones others : List StateRow) → HaveTexts ts us ones others → AreScreens us others
    → length ones ≡ length others
    → (k : ℕ) (one other : StateRow)
    → ((j : ℕ) (x y : StateRow) → j < k → slice_get ones j ≡ Some x → slice_get others j ≡ Some y → x.screen ≡ y.screen)
    → slice_get ones k ≡ Some one → slice_get others k ≡ Some other → one.screen < other.screen → ⊥
not_lower ts us ones others have are many k one other before at there l =
    let h = are.first k one.screen other there l in
    let x = item_too others ones h.place h.row (sym many) h.at in
    let e = before h.place x.0 h.row h.less x.1 h.at in
    let t = have h.place x.0 h.row x.1 h.at in
    let u = have k one other at there in
    let same = same_Some t.0 u.0 (sym t.1.0 ∙ ap (slice_get ts) (e ∙ h.is) ∙ u.1.0) in
    let screen = are.once one.screen other.screen u.0 (ap (slice_get us) (sym h.is) ∙ t.1.1 ∙ ap Some same) u.1.1 in
    omega (arith, l, screen)

same_screens : (ts us : List Lines) (ones others : List StateRow) → HaveTexts ts us ones others → AreScreens ts ones
    → AreScreens us others → length ones ≡ length others → (most k : ℕ) (one other : StateRow) → k < most
    → slice_get ones k ≡ Some one → slice_get others k ≡ Some other → one.screen ≡ other.screen
same_screens ts us ones others have are too many zero k one other l at there = absurd (omega (arith, l))
same_screens ts us ones others have are too many (suc most) k one other l at there =
    let before : (j : ℕ) (x y : StateRow) → j < k → slice_get ones j ≡ Some x → slice_get others j ≡ Some y
    → x.screen ≡ y.screen =
    λ j x y less a b. same_screens ts us ones others have are too many most j x y (omega (arith, l, less)) a b in
    elim (cases_order one.screen other.screen) [
      | inl e ↦ e
      | inr (inl m) ↦ absurd (not_lower ts us ones others have too many k one other before at there m)
      | inr (inr m) ↦ absurd (not_lower us ts others ones (turned_about ts us ones others have) are (sym many) k
          other one (λ j y x less b a. sym (before j x y less a b)) there at m)
    ]

module _ (ts us : List Lines) (ones others : List StateRow) (have : HaveTexts ts us ones others)
    (are : AreScreens ts ones) (too : AreScreens us others) (many : length ones ≡ length others) where
  pub screens_decide : (k : ℕ) (one other : StateRow) → slice_get ones k ≡ Some one → slice_get others k ≡ Some other
      → one.screen ≡ other.screen
  screens_decide k one other at there =
      same_screens ts us ones others have are too many (suc k) k one other (omega arith) at there

  pub texts_within : (k : ℕ) (text : Lines) → slice_get ts k ≡ Some text → slice_get us k ≡ Some text
  texts_within k text at =
      let h = are.used k text at in
      let y = item_too ones others h.place h.row many h.at in
      let e = screens_decide h.place h.row y.0 h.at y.1 in
      let u = have h.place h.row y.0 h.at y.1 in
      let same = same_Some u.0 text (sym u.1.0 ∙ ap (slice_get ts) h.is ∙ at) in
      ap (slice_get us) (sym h.is ∙ e) ∙ u.1.1 ∙ ap Some same

-- ---- arrows
same_arrow : (one other : Arrow) → one.choice ≡ other.choice → one.to ≡ other.to → one.incidents ≡ other.incidents
    → one ≡ other
same_arrow one other p q r = λ i. record { choice = p i; to = q i; incidents = r i }

module _ (decide : PassagesDecide) (choices : List KeyLine) (one_number : Option ℕ) (region : RegionState)
    (states : List ChoicesState)
    (once : (j k : ℕ) (state : ChoicesState) → slice_get states j ≡ Some state → slice_get states k ≡ Some state
    → j ≡ k) where
  place_decides : (state : ChoicesState) (one other : Option ℕ) → IsPlace states state one
      → IsPlace states state other → one ≡ other
  unfolding IsPlace
  place_decides state None None p q = refl
  place_decides state None (Some k) p q = absurd (p (record { place = k; at = q }))
  place_decides state (Some j) None p q = absurd (q (record { place = j; at = p }))
  place_decides state (Some j) (Some k) p q = ap Some (once j k state p q)

  one_arrow : (from : ChoicesState) (one other : Arrow) → IsArrow choices one_number region states from one
      → IsArrow choices one_number region states from other → one.choice ≡ other.choice → one ≡ other
  one_arrow from one other is too e =
      let same = decide choices one_number from.region other.choice is.passage too.passage
      (subst (λ n. Chooses choices one_number from.region n is.passage) e is.chooses) too.chooses in
      let to = same_state is.to too.to
      (is.leads ∙ ap (λ (p : Passage). numbered one_number p.after) same ∙ sym too.leads) in
      same_arrow one other e
      (place_decides too.to one.to other.to (subst (λ s. IsPlace states s one.to) to is.there) too.there)
      (is.incidents ∙ ap (λ n. passage_incidents region choices n is.passage) e
      ∙ ap (λ p. passage_incidents region choices other.choice p) same ∙ sym too.incidents)

  arrows_within : (from : ChoicesState) (ones others : List Arrow)
      → AreArrows choices one_number region states from ones
      → AreArrows choices one_number region states from others → (k : ℕ) (one : Arrow) → slice_get ones k ≡ Some one
      → (j : ℕ) × (slice_get others j ≡ Some one)
  arrows_within from ones others are too k one at =
      let is = are.each k one at in
      let h = too.all one.choice is.passage is.chooses in
      (h.place, h.at ∙ ap Some (one_arrow from h.arrow one (too.each h.place h.arrow h.at) is h.is))

  pub arrows_decide : (from : ChoicesState) (ones others : List Arrow)
      → AreArrows choices one_number region states from ones
      → AreArrows choices one_number region states from others → ones ≡ others
  arrows_decide from ones others are too =
      same_lists (λ (one other : Arrow). one.choice < other.choice) (λ one l. omega (arith, l))
      (λ x y z l m. omega (arith, l, m)) ones others are.ordered too.ordered
      (arrows_within from ones others are too) (arrows_within from others ones too are)

-- ---- whether something differs is one
differs_decides : (one_number : Option ℕ) (Same : Type 0) (one other : Bool) → Differs one_number Same one
    → Differs one_number Same other → one ≡ other
unfolding Differs
differs_decides None Same one other p q = p ∙ sym q
differs_decides (Some number) Same true true p q = refl
differs_decides (Some number) Same false false p q = refl
differs_decides (Some number) Same true false p q = absurd (p q)
differs_decides (Some number) Same false true p q = absurd (q p)

-- ---- rows
same_row : (one other : StateRow) → one.presses ≡ other.presses → one.screen ≡ other.screen
    → one.arrows ≡ other.arrows → one.list_differs ≡ other.list_differs → one.keys_differ ≡ other.keys_differ
    → one ≡ other
same_row one other p q r s t =
    λ i. record { presses = p i; screen = q i; arrows = r i; list_differs = s i; keys_differ = t i }

module _ (decide : PassagesDecide) (sooner : SoonerOrders) (waits : WaitsTextsDecide)
    (Shows : RegionState → Lines → Type 0)
    (shown : (region : RegionState) (one other : Lines) → Shows region one → Shows region other → one ≡ other)
    (choices : List KeyLine) (one_number : Option ℕ) (region : RegionState) where
  abbrev GoesTo : ChoicesState → ℕ → ChoicesState → Type 0
  GoesTo = Goes choices one_number

  -- the list that leads first to a state is sooner than that of another
  record IsBefore (one other : ChoicesState) : Type 0 where
    ms : List ℕ
    ns : List ℕ
    first : IsFirst GoesTo (begun region) ms one
    second : IsFirst GoesTo (begun region) ns other
    sooner_is : IsSooner ms ns

  one_list : (state : ChoicesState) (ms ns : List ℕ) → IsFirst GoesTo (begun region) ms state
      → IsFirst GoesTo (begun region) ns state → ms ≡ ns
  one_list state ms ns one other = both_soonest sooner ms ns (one.soonest ns other.leads) (other.soonest ms one.leads)

  before_never : (state : ChoicesState) → IsBefore state state → ⊥
  before_never state is =
      let same = one_list state is.ms is.ns is.first is.second in
      sooner.not_self is.ns (subst (λ xs. IsSooner xs is.ns) same is.sooner_is)

  before_onward : (x y z : ChoicesState) → IsBefore x y → IsBefore y z → IsBefore x z
  before_onward x y z l m =
      let same = one_list y l.ns m.ms l.second m.first in
      record {
        ms = l.ms;
        ns = m.ns;
        first = l.first;
        second = m.second;
        sooner_is = sooner.onward l.ms m.ms m.ns (subst (IsSooner l.ms) same l.sooner_is) m.sooner_is;
      }

  module _ (keys : ℕ) where
    abbrev Are : List Lines → List StateRow → Type 0
    Are texts rows = AreRows Shows choices one_number region keys texts rows

    first_of_row : (states : List ChoicesState) (texts : List Lines) (state : ChoicesState) (row : StateRow)
        → IsRow choices one_number region Shows states texts state row
        → IsFirst GoesTo (begun region) (moves_of row.presses) state
    first_of_row states texts state row is = record {
      leads = presses_lead choices one_number (begun region) state row.presses is.presses;
      soonest = is.soonest;
    }

    states_ordered : (texts : List Lines) (rows : List StateRow) (r : Are texts rows) (j k : ℕ)
        (one other : ChoicesState) → j < k
        → slice_get r.states j ≡ Some one → slice_get r.states k ≡ Some other → IsBefore one other
    states_ordered texts rows r j k one other l at there =
        let x = item_too r.states rows j one (sym r.many) at in
        let y = item_too r.states rows k other (sym r.many) there in
        record {
          ms = moves_of x.0.presses;
          ns = moves_of y.0.presses;
          first = first_of_row r.states texts one x.0 (r.each j one x.0 at x.1);
          second = first_of_row r.states texts other y.0 (r.each k other y.0 there y.1);
          sooner_is = r.ordered j k x.0 y.0 l x.1 y.1;
        }

    states_within : (ts us : List Lines) (ones others : List StateRow) (r : Are ts ones) (q : Are us others) (k : ℕ)
        (state : ChoicesState) → slice_get r.states k ≡ Some state → (j : ℕ) × (slice_get q.states j ≡ Some state)
    states_within ts us ones others r q k state at = let h = q.all state (r.near.each k state at) in (h.place, h.at)

    states_decide : (ts us : List Lines) (ones others : List StateRow) (r : Are ts ones) (q : Are us others)
        → r.states ≡ q.states
    states_decide ts us ones others r q =
        same_lists IsBefore before_never before_onward r.states q.states (states_ordered ts ones r)
        (states_ordered us others q) (states_within ts us ones others r q) (states_within us ts others ones q r)

    as_many : (ts us : List Lines) (ones others : List StateRow) → Are ts ones → Are us others
        → length ones ≡ length others
    as_many ts us ones others r q =
        r.many ∙ ap (λ (ss : List ChoicesState). length ss) (states_decide ts us ones others r q) ∙ sym q.many

    -- the rows at one place are of one state
    record AreOf (states : List ChoicesState) (ts us : List Lines) (one other : StateRow) : Type 0 where
      state : ChoicesState
      is : IsRow choices one_number region Shows states ts state one
      too : IsRow choices one_number region Shows states us state other

    rows_of : (ts us : List Lines) (ones others : List StateRow) (r : Are ts ones) (q : Are us others) (k : ℕ)
        (one other : StateRow)
        → slice_get ones k ≡ Some one → slice_get others k ≡ Some other → AreOf r.states ts us one other
    rows_of ts us ones others r q k one other at there =
        let same = states_decide ts us ones others r q in
        let s = item_too ones r.states k one r.many at in
        record {
          state = s.0;
          is = r.each k s.0 one s.1 at;
          too = subst (λ ss. IsRow choices one_number region Shows ss us s.0 other) (sym same)
              (q.each k s.0 other (ap (λ (ss : List ChoicesState). slice_get ss k) (sym same) ∙ s.1) there);
        }

    have_texts : (ts us : List Lines) (ones others : List StateRow) → Are ts ones → Are us others
        → HaveTexts ts us ones others
    have_texts ts us ones others r q k one other at there =
        let it = rows_of ts us ones others r q k one other at there in
        let same = text_decides waits Shows shown it.state it.is.text it.too.text it.is.shows it.too.shows in
        (it.is.text, (it.is.screen, it.too.screen ∙ ap Some (sym same)))

    one_row : (ts us : List Lines) (ones others : List StateRow) (r : Are ts ones) (q : Are us others) (k : ℕ)
        (one other : StateRow)
        → slice_get ones k ≡ Some one → slice_get others k ≡ Some other → one ≡ other
    one_row ts us ones others r q k one other at there =
        let it = rows_of ts us ones others r q k one other at there in
        let moves = one_list it.state (moves_of one.presses) (moves_of other.presses)
        (first_of_row r.states ts it.state one it.is) (first_of_row r.states us it.state other it.too) in
        let presses = presses_decide decide choices one_number (begun region) it.state it.state one.presses
        other.presses it.is.presses it.too.presses moves in
        same_row one other presses
        (screens_decide ts us ones others (have_texts ts us ones others r q) r.screens q.screens
        (as_many ts us ones others r q) k one other at there)
        (arrows_decide decide choices one_number region r.states r.near.once it.state one.arrows other.arrows
        it.is.arrows it.too.arrows)
        (differs_decides one_number (IsSameList Shows choices one_number region it.state other.presses)
        one.list_differs other.list_differs
        (subst (λ ps. Differs one_number (IsSameList Shows choices one_number region it.state ps) one.list_differs)
        presses it.is.listed) it.too.listed)
        (differs_decides one_number (AreSameKeys Shows choices one_number region it.state other.presses)
        one.keys_differ other.keys_differ
        (subst (λ ps. Differs one_number (AreSameKeys Shows choices one_number region it.state ps) one.keys_differ)
        presses it.is.pressed) it.too.pressed)

    rows_within : (ts us : List Lines) (ones others : List StateRow) → Are ts ones → Are us others
        → (k : ℕ) (one : StateRow) → slice_get ones k ≡ Some one → slice_get others k ≡ Some one
    rows_within ts us ones others r q k one at =
        let y = item_too ones others k one (as_many ts us ones others r q) at in
        y.1 ∙ ap Some (sym (one_row ts us ones others r q k one y.0 at y.1))

    pub rows_decide : (ts us : List Lines) (ones others : List StateRow) → Are ts ones → Are us others → ones ≡ others
    rows_decide ts us ones others r q =
        same_items ones others (rows_within ts us ones others r q) (rows_within us ts others ones q r)

    pub texts_decide : (ts us : List Lines) (ones others : List StateRow) → Are ts ones → Are us others → ts ≡ us
    texts_decide ts us ones others r q =
        same_items ts us
        (texts_within ts us ones others (have_texts ts us ones others r q) r.screens q.screens
        (as_many ts us ones others r q))
        (texts_within us ts others ones (have_texts us ts others ones q r) q.screens r.screens
        (as_many us ts others ones q r))
