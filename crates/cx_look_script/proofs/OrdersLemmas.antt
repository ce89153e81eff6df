-- Lines of texts; and what is to be seen of a region: how such a list goes on, and that there is one.
use Rattle.std.proofs.Common.{◌≡◌, ℕ, List, [], ◌∷◌, ◌++◌, arith, length, refl, sym, ap, subst, ◌∙◌, append-nil, append_assoc}
use Rattle.std.specs.Str.Lines.{strip_carriage_return}
use Rattle.cx_region.specs.State.{RegionState}
use Rattle.cx_script_io.specs.Facts.Lines.{line_met, none_met}
use Rattle.cx_script_io.specs.Lines.{last_met, lines_met}
use Rattle.cx_script_io.specs.Unbroken.{IsUnbroken}
use Rattle.cx_script_io.specs.declared.input.Ending.TheVariants.{AtEnd}
use Rattle.cx_look.specs.declared.look.Look.{Look}
use Rattle.cx_look.specs.declared.orders.OrdersBlock.{OrdersBlock}
use Rattle.cx_look.specs.declared.orders.Sight.{Sight}
use Rattle.cx_look.specs.declared.orders.Sight.TheVariants as sight
use Rattle.cx_look_orders.specs.Report.{OrdersText}
use Rattle.cx_look_lines.specs.Words.{Lines, marked}
use Rattle.cx_orders.specs.declared.states.Keys.{Keys}
use Rattle.cx_look_script.specs.Looking.{AreLookLines, ShowsOrders, at_region}
use Rattle.cx_look_script.specs.Orders.{AreSeen, IsSeen, keys_asked, names_with_edf, sights_of}
use Rattle.cx_look_script.specs.State.{LookState}
use Rattle.cx_look_script.specs.Telling.{turn_told}
use Rattle.cx_orders.specs.Laws.{MovesDecide}
use Rattle.cx_orders.specs.Moves.{Moves}
use Rattle.cx_search.specs.Facts.Loops.{bounded_never_loops}
use Rattle.cx_search.specs.Laws.{SoonerOrders}
use Rattle.cx_region_laws.specs.Laws.Regions.{KeysKeepToTheirTerminal, TurnsDecide, TurnsKeepToTheirTask}
use Rattle.cx_look_orders.specs.Facts.Decides.{reports_decide}
use Rattle.cx_look_script.specs.Laws.Orders.{OrdersAreReportedOnce}

-- ---- the lines of a text
pub line_pushed : (report all : Lines) (text line rest : List ℕ) → text ≡ line ++ 10 ∷ rest → IsUnbroken line → report ++ lines_met AtEnd text ≡ all
    → (report ++ strip_carriage_return line ∷ []) ++ lines_met AtEnd rest ≡ all
line_pushed report all text line rest e u h =
    append_assoc report (strip_carriage_return line ∷ []) (lines_met AtEnd rest) ∙ ap (λ l. report ++ l) (sym (line_met AtEnd line rest u))
    ∙ ap (λ t. report ++ lines_met AtEnd t) (sym e) ∙ h

pub last_pushed : (report all : Lines) (text : List ℕ) → IsUnbroken text → report ++ lines_met AtEnd text ≡ all → report ++ last_met AtEnd text ≡ all
last_pushed report all text u h = ap (λ l. report ++ l) (sym (none_met AtEnd text u)) ∙ h

-- ---- what is to be seen
module _ (Says : Look → Lines → Type 0) (region : RegionState) where
  -- what comes after lines that show the sights so far
  abbrev pub SeenBefore : List Sight → List Sight → Lines → Type 0
  SeenBefore all rest lines = (others : Lines) → AreSeen Says region rest others → AreSeen Says region all (lines ++ others)

  pub seen_before_all : (all : List Sight) → SeenBefore all all []
  seen_before_all all others seen = seen

  pub seen_one_more : (all rest later : List Sight) (s : Sight) (lines first : Lines) → rest ≡ s ∷ later → IsSeen Says region s first → SeenBefore all rest lines
      → SeenBefore all later (lines ++ first)
  unfolding AreSeen
  seen_one_more all rest later s lines first e is before others seen =
      let more : AreSeen Says region (s ∷ later) (first ++ others) = record { first = first; is = is; others = others; rest = seen; whole = refl } in
      subst (λ l. AreSeen Says region all l) (sym (append_assoc lines first others))
      (before (first ++ others) (subst (λ l. AreSeen Says region l (first ++ others)) (sym e) more))

  pub seen_all : (all rest : List Sight) (lines : Lines) → length rest ≡ 0 → SeenBefore all rest lines → AreSeen Says region all lines
  unfolding AreSeen
  seen_all all [] lines e before = subst (λ l. AreSeen Says region all l) (append-nil lines) (before [] refl)
  seen_all all (s ∷ rest) lines e before = absurd (omega (arith, e))

  module _ (says_decide : (l : Look) (one other : Lines) → Says l one → Says l other → one ≡ other) where
    one_decides : (s : Sight) (one other : Lines) → IsSeen Says region s one → IsSeen Says region s other → one ≡ other
    unfolding IsSeen
    one_decides (sight.Screen name) one other p q = p ∙ sym q
    one_decides (sight.Look l) one other p q =
        p.whole ∙ ap (λ ls. ls ++ p.others) (says_decide l p.first q.first p.is q.is) ∙ ap (λ ls. q.first ++ ls) (p.rest ∙ sym q.rest) ∙ sym q.whole

    pub all_decide : (sights : List Sight) (one other : Lines) → AreSeen Says region sights one → AreSeen Says region sights other → one ≡ other
    unfolding AreSeen
    all_decide [] one other p q = p ∙ sym q
    all_decide (s ∷ sights) one other p q =
        p.whole ∙ ap (λ l. l ++ p.others) (one_decides s p.first q.first p.is q.is)
        ∙ ap (λ l. q.first ++ l) (all_decide sights p.others q.others p.rest q.rest) ∙ sym q.whole

-- ---- the whole
module _ (state : LookState) (block : OrdersBlock) where
  abbrev Shows : List Sight → RegionState → Lines → Type 0
  Shows sights region = AreSeen (λ (l : Look). AreLookLines l (at_region state region)) region sights

  pub orders_shown : (sights : List Sight) (keys : Keys) (region : RegionState) (edf : List (List ℕ)) (lines : Lines) (text : List ℕ)
      → OrdersText (λ (r : RegionState). AreSeen (λ (l : Look). AreLookLines l (at_region state r)) r sights) (turn_told state.sources) keys region edf block.most lines
      → keys ≡ keys_asked block → sights ≡ sights_of block.sights region → region ≡ state.edf.region → edf ≡ names_with_edf state.edf
      → text ≡ marked lines → ShowsOrders block state text
  orders_shown sights keys region edf lines text is asked shown same with_edf written =
      let by_keys = subst (λ (ks : Keys). OrdersText (Shows sights) (turn_told state.sources) ks region edf block.most lines) asked is in
      let by_sights = subst (λ (s : List Sight). OrdersText (Shows s) (turn_told state.sources) (keys_asked block) region edf block.most lines) shown by_keys in
      let by_region = subst (λ (r : RegionState). OrdersText (Shows (sights_of block.sights r)) (turn_told state.sources) (keys_asked block) r edf block.most lines) same by_sights in
      let by_names = subst (λ (n : List (List ℕ)). OrdersText (Shows (sights_of block.sights state.edf.region)) (turn_told state.sources) (keys_asked block) state.edf.region n block.most lines) with_edf by_region in
      record { lines = lines; are = by_names; is = written }

pub orders_once : MovesDecide → TurnsDecide → TurnsKeepToTheirTask → KeysKeepToTheirTerminal → SoonerOrders → OrdersAreReportedOnce
orders_once decide turns turned keyed sooner block state one other named p q =
    p.is
    ∙ ap marked
    (reports_decide (Shows state block (sights_of block.sights state.edf.region)) (turn_told state.sources) decide turns turned keyed sooner (keys_asked block) (bounded_never_loops (Moves (keys_asked block)))
    state.edf.region (names_with_edf state.edf) block.most p.lines q.lines named p.are q.are)
    ∙ sym q.is
