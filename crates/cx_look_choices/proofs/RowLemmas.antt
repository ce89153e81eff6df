-- The rows of the first states, one state more, and those of all.
use Rattle.std.proofs.Common.{◌≡◌, ℕ, zero, suc, ◌+◌, ◌<◌, ◌≤◌, List, [], ◌∷◌, ◌++◌, length, map, Option, Some, None, ◌⊎◌, inl, inr, ap, refl, sym, subst, ◌∙◌, arith}
use Rattle.std.specs.Prelude.{option_map, slice_get}
use Rattle.std.proofs.lemmas.Bool.{cases_order}
use Rattle.std.proofs.lemmas.List.{length-map, length-take-le}
use Rattle.std.proofs.lemmas.Option.{none-some, same_Some, slice_get_within, slice_get-get_or}
use Rattle.cx_search.specs.declared.found.Origin.{Origin}
use Rattle.cx_search.specs.Facts.Items.{item_appended, item_kept, item_last}
use Rattle.cx_search.specs.Finds.{Finds}
use Rattle.cx_search.specs.Found.{IsAt}
use Rattle.cx_search.specs.Moves.{Leads}
use Rattle.cx_look_lines.specs.Words.{Lines}
use Rattle.cx_region.specs.State.{RegionState}
use Rattle.cx_orders.specs.declared.states.KeyLine.{KeyLine}
use Rattle.cx_choices.specs.Moves.{Goes, begun}
use Rattle.cx_choices.specs.declared.states.ChoicesState.{ChoicesState}
use Rattle.cx_look_steps.specs.Steps.{NoLater}
use Rattle.cx_look_choices.specs.Parts.Ways.{AreCompared, AreFirstPresses, AreFirstRows, AreFirstWithin, HasFound, IsRowAt, Numbers, StandOnce, states_of}
use Rattle.cx_look_choices.specs.Presses.{moves_of}
use Rattle.cx_look_choices.specs.Rows.{AreArrows, AreNear, AreRows, AreScreens, HasNear, HasScreen, IsRow}
use Rattle.cx_look_choices.specs.States.{StateText}
use Rattle.cx_look_choices.specs.declared.rows.StateRow.{StateRow}
use Rattle.cx_look_choices.proofs.PlaceLemmas.{at_place, one_state, stands_at}

-- a list has an item at each place before its end
pub some_within : {X : Type 0} (xs : List X) (i : ℕ) → i < length xs → slice_get xs i ≡ None → ⊥
some_within [] i l none = omega (arith, l)
some_within (x ∷ xs) zero l none = none-some x (sym none)
some_within (x ∷ xs) (suc i) l none = some_within xs i (omega (arith, l)) none

-- how many of the states that were found are led to by few moves
abbrev pub AreWithin : List (ChoicesState × Origin) → ℕ → ℕ → Type 0
AreWithin found moves many = (p : ℕ) (s : ChoicesState) (o : Origin) → p < many → slice_get found p ≡ Some (s, o) → o.moves ≤ moves

module _ (found : List (ChoicesState × Origin)) (moves place : ℕ) (are : AreWithin found moves place) where
  pub first_within : (many : Option ℕ) (more : ℕ) → place < length found
      → many ≡ option_map (λ (entry : ChoicesState × Origin). entry.1.moves) (slice_get found place) → many ≡ Some more → moves < more
      → AreFirstWithin found moves place
  first_within many more within is some far = record {
    few = omega (arith, within);
    near = are;
    next = λ state origin at.
        let same = same_Some more origin.moves (sym some ∙ is ∙ ap (option_map (λ (entry : ChoicesState × Origin). entry.1.moves)) at) in
        omega (arith, far, same);
  }

  pub first_all : (many : ℕ) → length found ≤ place → many ≡ length found → AreFirstWithin found moves many
  first_all many enough is = record {
    few = omega (arith, is);
    near = λ p state origin l at. are p state origin (omega (arith, l, is, enough)) at;
    next = λ state origin at. let within = slice_get_within found many (state, origin) at in absurd (omega (arith, within, is));
  }

-- ---- texts
-- the texts that came stay where they are
text_kept : (texts after : List Lines) (text : Lines) (number : ℕ) → Numbers texts after text number → (k : ℕ) (other : Lines) → slice_get texts k ≡ Some other
    → slice_get after k ≡ Some other
text_kept texts after text number is k other at = elim is.how [
  | inl same ↦ subst (λ ts. slice_get ts k ≡ Some other) (sym same) at
  | inr new ↦ subst (λ ts. slice_get ts k ≡ Some other) (sym new.added) (item_kept texts (text ∷ []) k other at)
]

-- one of them, or the new one
text_cases : (texts after : List Lines) (text : Lines) (number : ℕ) → Numbers texts after text number → (k : ℕ) (other : Lines) → slice_get after k ≡ Some other
    → (slice_get texts k ≡ Some other) ⊎ ((k ≡ number) × ((k ≡ length texts) × ((other ≡ text) × ((j : ℕ) → slice_get texts j ≡ Some text → ⊥))))
text_cases texts after text number is k other at = elim is.how [
  | inl same ↦ inl (subst (λ ts. slice_get ts k ≡ Some other) same at)
  | inr new ↦ elim (item_appended texts text other k (subst (λ ts. slice_get ts k ≡ Some other) new.added at)) [
    | inl old ↦ inl old
    | inr e ↦ inr (e.0 ∙ sym new.first, (e.0, (sym e.1, new.new)))
  ]
]

-- the number is at most as many as came
number_near : (texts after : List Lines) (text : Lines) (number : ℕ) → Numbers texts after text number → number ≤ length texts
number_near texts after text number is = elim is.how [
  | inl same ↦ let l = slice_get_within texts number text (subst (λ ts. slice_get ts number ≡ Some text) same is.is) in omega (arith, l)
  | inr new ↦ let e = new.first in omega (arith, e)
]

screen_kept : (rows more : List StateRow) (before screen : ℕ) → HasScreen rows before screen → HasScreen (rows ++ more) before screen
screen_kept rows more before screen has = record {
  place = has.place;
  less = has.less;
  row = has.row;
  at = item_kept rows more has.place has.row has.at;
  is = has.is;
}

screen_later : (rows : List StateRow) (before later screen : ℕ) → before ≤ later → HasScreen rows before screen → HasScreen rows later screen
screen_later rows before later screen l has = record {
  place = has.place;
  less = let m = has.less in omega (arith, l, m);
  row = has.row;
  at = has.at;
  is = has.is;
}

many_more : (rows : List StateRow) (row : StateRow) → length (rows ++ row ∷ []) ≡ length rows + 1
many_more [] row = refl
many_more (x ∷ rows) row = let e = many_more rows row in omega (arith, e)

module _ (texts after : List Lines) (text : Lines) (rows : List StateRow) (row : StateRow) (is : Numbers texts after text row.screen) (were : AreScreens texts rows) where
  screens_once : (one other : ℕ) (t : Lines) → slice_get after one ≡ Some t → slice_get after other ≡ Some t → one ≡ other
  screens_once one other t at also = elim (text_cases texts after text row.screen is one t at) [
    | inl old ↦ elim (text_cases texts after text row.screen is other t also) [
      | inl too ↦ were.once one other t old too
      | inr new ↦ absurd (new.1.1.1 one (subst (λ x. slice_get texts one ≡ Some x) new.1.1.0 old))
    ]
    | inr new ↦ elim (text_cases texts after text row.screen is other t also) [
      | inl old ↦ absurd (new.1.1.1 other (subst (λ x. slice_get texts other ≡ Some x) new.1.1.0 old))
      | inr too ↦ new.0 ∙ sym too.0
    ]
  ]

  screens_used : (screen : ℕ) (t : Lines) → slice_get after screen ≡ Some t → HasScreen (rows ++ row ∷ []) (length (rows ++ row ∷ [])) screen
  screens_used screen t at = elim (text_cases texts after text row.screen is screen t at) [
    | inl old ↦ let e = many_more rows row in
        screen_later (rows ++ row ∷ []) (length rows) (length (rows ++ row ∷ [])) screen (omega (arith, e))
        (screen_kept rows (row ∷ []) (length rows) screen (were.used screen t old))
    | inr new ↦ record {
      place = length rows;
      less = let e = many_more rows row in omega (arith, e);
      row = row;
      at = item_last rows row;
      is = sym new.0;
    }
  ]

  -- a lower number than the new row's has come
  lower_came : (screen : ℕ) → screen < row.screen → HasScreen rows (length rows) screen
  lower_came screen l =
      let near = number_near texts after text row.screen is in
      were.used screen _ (slice_get-get_or texts screen [] (omega (arith, l, near)))

  screens_first : (place screen : ℕ) (r : StateRow) → slice_get (rows ++ row ∷ []) place ≡ Some r → screen < r.screen → HasScreen (rows ++ row ∷ []) place screen
  screens_first place screen r at l = elim (item_appended rows row r place at) [
    | inl old ↦ screen_kept rows (row ∷ []) place screen (were.first place screen r old l)
    | inr e ↦ subst (λ p. HasScreen (rows ++ row ∷ []) p screen) (sym e.0)
        (screen_kept rows (row ∷ []) (length rows) screen
        (lower_came screen (subst (λ (x : StateRow). screen < x.screen) (sym e.1) l)))
  ]

  pub screens_on : AreScreens after (rows ++ row ∷ [])
  screens_on = record { once = screens_once; used = screens_used; first = screens_first }

-- ---- rows
module _ (Shows : RegionState → Lines → Type 0) (choices : List KeyLine) (one_number : Option ℕ) (region : RegionState) (found : List (ChoicesState × Origin))
    (many : ℕ) where
  abbrev First : ℕ → List Lines → List StateRow → Type 0
  First = AreFirstRows Shows choices one_number region found many

  abbrev RowAt : List Lines → ℕ → StateRow → Type 0
  RowAt = IsRowAt Shows choices one_number region found many

  pub rows_none : First 0 [] []
  rows_none = record {
    as_many = refl;
    each = λ place row at. absurd (none-some row at);
    screens = record {
      once = λ one other text at also. absurd (none-some text at);
      used = λ screen text at. absurd (none-some text at);
      first = λ place screen row at l. absurd (none-some row at);
    };
  }

  -- the row of the next state
  pub record IsNext (place : ℕ) (text : Lines) (row : StateRow) : Type 0 where
    pub state : ChoicesState
    pub at : IsAt found place state
    pub presses : AreFirstPresses choices one_number (begun region) state row.presses
    pub shows : StateText Shows state text
    pub arrows : AreArrows choices one_number region (states_of many found) state row.arrows
    pub compared : AreCompared Shows choices one_number region state row.presses row.list_differs row.keys_differ

  row_kept : (texts after : List Lines) (text : Lines) (number place : ℕ) (row : StateRow) → Numbers texts after text number → RowAt texts place row → RowAt after place row
  row_kept texts after text number place row is was = record {
    state = was.state;
    at = was.at;
    presses = was.presses;
    text = was.text;
    shows = was.shows;
    screen = text_kept texts after text number is row.screen was.text was.screen;
    arrows = was.arrows;
    compared = was.compared;
  }

  pub rows_on : (done : ℕ) (texts after : List Lines) (text : Lines) (rows : List StateRow) (row : StateRow) → First done texts rows → IsNext done text row
      → Numbers texts after text row.screen → First (done + 1) after (rows ++ row ∷ [])
  rows_on done texts after text rows row are next is = record {
    as_many = many_more rows row ∙ ap (λ n. n + 1) are.as_many;
    each = λ place r at. elim (item_appended rows row r place at) [
      | inl old ↦ row_kept texts after text row.screen place r is (are.each place r old)
      | inr e ↦ subst (RowAt after place) e.1 (subst (λ p. RowAt after p row) (sym (e.0 ∙ are.as_many)) (record {
        state = next.state;
        at = next.at;
        presses = next.presses;
        text = text;
        shows = next.shows;
        screen = is.is;
        arrows = next.arrows;
        compared = next.compared;
      }))
    ];
    screens = screens_on texts after text rows row is are.screens;
  }

-- ---- all rows
module _ (choices : List KeyLine) (one_number : Option ℕ) (region : RegionState) (found : List (ChoicesState × Origin))
    (f : Finds (Goes choices one_number) (begun region) found) where
  abbrev Moves : ChoicesState → ℕ → ChoicesState → Type 0
  Moves = Goes choices one_number

  no_longer : (ms ns : List ℕ) → NoLater ms ns → length ms ≤ length ns
  no_longer ms ns (inl e) = let same = ap length e in omega (arith, same)
  no_longer ms ns (inr (inl l)) = omega (arith, l)
  no_longer ms ns (inr (inr e)) = let same = e.0 in omega (arith, same)

  -- no list that leads to a state is shorter than is kept with it
  pub kept_least : (p : ℕ) (s : ChoicesState) (origin : Origin) (ms : List ℕ) → slice_get found p ≡ Some (s, origin) → Leads Moves (begun region) ms s
      → origin.moves ≤ length ms
  kept_least p s origin ms there leads =
      let led = f.led p s origin there in
      let many = led.many in
      let longer = no_longer led.moves ms (led.first.soonest ms leads) in
      omega (arith, many, longer)

  -- a later state has as many moves or more
  kept_more : (p q : ℕ) (s t : ChoicesState) (o u : Origin) → p < q → slice_get found p ≡ Some (s, o) → slice_get found q ≡ Some (t, u) → o.moves ≤ u.moves
  kept_more p q s t o u l there also =
      let one = f.led p s o there in
      let other = f.led q t u also in
      let before = f.ordered p q s t one.moves other.moves l (record { origin = o; there = there }) (record { origin = u; there = also }) one.first other.first in
      let longer = no_longer one.moves other.moves (inr before) in
      let m = one.many in
      let n = other.many in
      omega (arith, m, n, longer)

  pub stand_once : StandOnce found
  stand_once = f.once

  module _ (keys many : ℕ) (within : AreFirstWithin found keys many) (all : HasFound choices one_number region found keys) where
    abbrev states : List ChoicesState
    states = states_of many found

    are_near : AreNear choices one_number region keys states
    are_near = record {
      each = λ p s is.
          let at = at_place found many p s is in
          let led = f.led p s at.1.origin at.1.there in
          let near = within.near p s at.1.origin at.0 at.1.there in
          let m = led.many in
          record { list = led.moves; leads = led.first.leads; short = omega (arith, m, near) };
      once = λ p q s is also. f.once p q s (at_place found many p s is).1 (at_place found many q s also).1;
    }

    -- a state that a short list leads to is one of the first
    among_first : (p : ℕ) (s : ChoicesState) (origin : Origin) → slice_get found p ≡ Some (s, origin) → origin.moves ≤ keys → p < many
    among_first p s origin there short = elim (cases_order p many) [
      | inl e ↦ let far = within.next s origin (subst (λ k. slice_get found k ≡ Some (s, origin)) e there) in absurd (omega (arith, far, short))
      | inr (inl l) ↦ l
      | inr (inr l) ↦
          let here = slice_get_within found p (s, origin) there in
          let at = slice_get-get_or found many (s, origin) (omega (arith, here, l)) in
          let far = within.next _ _ at in
          let more = kept_more many p _ s _ origin l at there in
          absurd (omega (arith, far, more, short))
    ]

    has_near : HasNear choices one_number region keys states
    has_near s near =
        let it = all s near in
        let least = kept_least it.place s it.is.origin near.list it.is.there near.leads in
        let short = near.short in
        let l = among_first it.place s it.is.origin it.is.there (omega (arith, least, short)) in
        record { place = it.place; at = stands_at found many it.place s l it.is }

    as_many : length states ≡ many
    as_many =
        let few = within.few in
        let all_many = length-map found (λ (entry : ChoicesState × Origin). entry.0) in
        length-take-le many (map (λ (entry : ChoicesState × Origin). entry.0) found) (omega (arith, few, all_many))

    pub all_rows : (Shows : RegionState → Lines → Type 0) (texts : List Lines) (rows : List StateRow)
        → AreFirstRows Shows choices one_number region found many many texts rows → AreRows Shows choices one_number region keys texts rows
    all_rows Shows texts rows are = record {
      states = states;
      near = are_near;
      all = has_near;
      many = are.as_many ∙ sym as_many;
      each = λ place state row is at.
          let it = are.each place row at in
          let same = one_state found place it.state state it.at (at_place found many place state is).1 in
          subst (λ s. IsRow choices one_number region Shows states texts s row) same (record {
            presses = it.presses.are;
            soonest = it.presses.first.soonest;
            text = it.text;
            shows = it.shows;
            screen = it.screen;
            arrows = it.arrows;
            listed = it.compared.listed;
            pressed = it.compared.pressed;
          });
      ordered = λ j k one other l at also.
          let it = are.each j one at in
          let too = are.each k other also in
          f.ordered j k it.state too.state (moves_of one.presses) (moves_of other.presses) l it.at too.at it.presses.first too.presses.first;
      screens = are.screens;
    }
