-- A move leads to one state.
use Rattle.std.proofs.Common.{◌≡◌, ℕ, ◌+◌, ◌*◌, ◌<◌, List, [], ◌∷◌, length, Bool, ◌||◌, arith, true, false, true≢false, Option, Some, None, ◌⊎◌, inl, inr, refl, sym, ap, subst, ◌∙◌}
use Rattle.std.specs.Prelude.{if◌then◌else◌, slice_get, slice_set, MatchBool, MatchOption}
use Rattle.std.proofs.lemmas.Cmp.{nat_list_eq_equiv}
use Rattle.std.proofs.lemmas.Map.Entries.{lookup_from_place}
use Rattle.std.proofs.lemmas.Option.{none-some, same_Some, slice_get_within}
use Rattle.cx_search.specs.Moves.{GoesOnly, GoesTo}
use Rattle.cx_region.specs.Attach.{TakesKey, input_from}
use Rattle.cx_ebcdic.specs.Names.{is_name}
use Rattle.std.specs.List.{IsDistinct}
use Rattle.std.specs.Map.{keys_of as names_of}
use Rattle.cx_region.specs.State.{RegionState, TerminalState}
use Rattle.cx_region.specs.Tables.{terminal_of}
use Rattle.cx_region.specs.Turn.{TakesTurn, TaskTakesTurn, context_of}
use Rattle.cx_region.specs.declared.replies.KeyReply.{KeyReply}
use Rattle.cx_region_laws.specs.Laws.Regions.{KeysDecide, TurnsDecide}
use Rattle.cx_region_state.specs.State.{TaskContext, TaskState}
use Rattle.cx_region_state.specs.declared.replies.TurnReply.{TurnReply}
use Rattle.cx_region_state.specs.declared.replies.TurnReply.TheVariants as turn
use Rattle.cx_region_task.specs.Laws.Decisions.{is_wait_reply}
use Rattle.cx_region_task.specs.Laws.HalfTurns.{HalfTurnsStay, is_of_task}
use Rattle.cx_region_task.specs.declared.decision.Decision.{Decision}
use Rattle.cx_region_task.specs.declared.decision.Decision.TheVariants as decision
use Rattle.cx_look_tasks.specs.Activities.{HasActivity, ActsByCommand, IsActivity, activity_by, is_acting, is_waiting}
use Rattle.cx_look_tasks.specs.Laws.{ActivitiesDecide, WaitsAreReported}
use Rattle.cx_look_tasks.specs.declared.activities.Activity.{Activity}
use Rattle.cx_look_tasks.specs.declared.activities.Activity.TheVariants.{Due, NoTask, Running, Waiting}
use Rattle.cx_orders.specs.Laws.{MovesDecide}
use Rattle.cx_orders.specs.Incidents.{incident_of_key, incident_of_turn, with_incident}
use Rattle.cx_orders.specs.Moves.{KeyMoves, MayCome, Moves, TurnMoves, is_move, is_ready, is_taken, key_number, keys_of, turn_number}
use Rattle.cx_orders.specs.Parts.{IsAsked, IsNowhere, has_come}
use Rattle.cx_orders.specs.declared.moves.Asked.{Asked}
use Rattle.cx_orders.specs.declared.states.KeyLine.{KeyLine}
use Rattle.cx_orders.specs.declared.states.Keys.{Keys}
use Rattle.cx_orders.specs.declared.states.OrdersState.{OrdersState}

pub terminal_at : (region : RegionState) (number : ℕ) (name : List ℕ) (terminal : TerminalState) → IsDistinct is_name (names_of region.terminals)
    → slice_get region.terminals number ≡ Some (name, terminal) → terminal_of region name ≡ Some terminal
terminal_at region number name terminal distinct at = lookup_from_place nat_list_eq_equiv region.terminals number name terminal distinct at

acts_not : (r : TaskContext) (due : Bool) → MatchBool due (ActsByCommand r NoTask) (NoTask ≡ Running) → ⊥
acts_not r false e = cc
acts_not r true h = by h.decided h.is
  where
    by : (d : Decision) → NoTask ≡ activity_by d → ⊥
    by (decision.Refuse call abend) e = cc
    by (decision.Wait call wait) e = cc
    by (decision.Act act) e = cc

-- a terminal of which it is said has no task
no_task : (region : RegionState) (terminal : TerminalState) → IsActivity region terminal NoTask → terminal.task ≡ None
unfolding IsActivity HasActivity
no_task region terminal is = by terminal.task is
  where
    by : (task : Option TaskState) → MatchOption task (NoTask ≡ NoTask) (λ t. MatchBool t.due (ActsByCommand (context_of region terminal t) NoTask) (NoTask ≡ Running)) → task ≡ None
    by None h = refl
    by (Some t) h = absurd (acts_not (context_of region terminal t) t.due h)

-- the task of one that acts
a_task : (region : RegionState) (terminal : TerminalState) (activity : Activity) → IsActivity region terminal activity → is_acting activity ≡ true
    → (task : TaskState) × (terminal.task ≡ Some task)
unfolding IsActivity
a_task region terminal activity is acting = by terminal.task is
  where
    by : (task : Option TaskState) → MatchOption task (activity ≡ NoTask) (λ t. HasActivity (context_of region terminal t) activity) → (t : TaskState) × (task ≡ Some t)
    by None h = absurd (true≢false (sym acting ∙ ap is_acting h))
    by (Some t) h = (t, refl)

moves_by : (reply : TurnReply) → is_of_task reply ≡ true → is_wait_reply reply ≡ false → is_move reply ≡ true
moves_by turn.Idle of_task waits = absurd (true≢false (sym of_task))
moves_by turn.NoSuchTerminal of_task waits = absurd (true≢false (sym of_task))
moves_by turn.Waiting of_task waits = absurd (true≢false waits)
moves_by turn.AtCommand of_task waits = refl
moves_by (turn.Performed condition) of_task waits = refl
moves_by turn.Entered of_task waits = refl
moves_by turn.Returned of_task waits = refl
moves_by (turn.TookLabel condition) of_task waits = refl
moves_by (turn.TookExit code) of_task waits = refl
moves_by (turn.Abended code) of_task waits = refl
moves_by turn.Ended of_task waits = refl

waits_not : (reply : TurnReply) → is_wait_reply reply ≡ true → is_move reply ≡ true → ⊥
waits_not turn.Waiting waits moves = true≢false (sym moves)
waits_not turn.Idle waits moves = true≢false (sym waits)
waits_not turn.NoSuchTerminal waits moves = true≢false (sym waits)
waits_not turn.AtCommand waits moves = true≢false (sym waits)
waits_not (turn.Performed condition) waits moves = true≢false (sym waits)
waits_not turn.Entered waits moves = true≢false (sym waits)
waits_not turn.Returned waits moves = true≢false (sym waits)
waits_not (turn.TookLabel condition) waits moves = true≢false (sym waits)
waits_not (turn.TookExit code) waits moves = true≢false (sym waits)
waits_not (turn.Abended code) waits moves = true≢false (sym waits)
waits_not turn.Ended waits moves = true≢false (sym waits)

-- a turn of a terminal, by its task
turn_of : (region : RegionState) (name : List ℕ) (terminal : TerminalState) (reply : TurnReply) (new : RegionState) → terminal_of region name ≡ Some terminal
    → TakesTurn region name reply new → MatchOption terminal.task ((reply ≡ turn.Idle) × (new ≡ region)) (λ task. TaskTakesTurn region name terminal task reply new)
unfolding TakesTurn
turn_of region name terminal reply new is takes =
    subst (λ o. MatchOption o ((reply ≡ turn.NoSuchTerminal) × (new ≡ region))
    (λ t. MatchOption t.task ((reply ≡ turn.Idle) × (new ≡ region)) (λ task. TaskTakesTurn region name t task reply new))) is takes

idle : (region : RegionState) (name : List ℕ) (terminal : TerminalState) (reply : TurnReply) (new : RegionState) → terminal_of region name ≡ Some terminal
    → terminal.task ≡ None → TakesTurn region name reply new → reply ≡ turn.Idle
idle region name terminal reply new is none takes =
    (subst (λ o. MatchOption o ((reply ≡ turn.Idle) × (new ≡ region)) (λ task. TaskTakesTurn region name terminal task reply new)) none
    (turn_of region name terminal reply new is takes)).0

not_acting : (activity : Activity) → is_acting activity ≡ true → is_waiting activity ≡ false
not_acting Running is = refl
not_acting (Due command) is = refl
not_acting NoTask is = absurd (true≢false (sym is))
not_acting (Waiting wait) is = absurd (true≢false (sym is))

module _ (reported : WaitsAreReported) (stays : HalfTurnsStay) where
  -- a turn of a terminal whose task acts is a move
  pub acting_moves : (region : RegionState) (name : List ℕ) (terminal : TerminalState) (activity : Activity) → terminal_of region name ≡ Some terminal
      → IsActivity region terminal activity → is_acting activity ≡ true → (reply : TurnReply) (new : RegionState) → TakesTurn region name reply new → is_move reply ≡ true
  acting_moves region name terminal activity at is acting reply new takes =
      let task = a_task region terminal activity is acting in
      let turned = subst (λ o. MatchOption o ((reply ≡ turn.Idle) × (new ≡ region)) (λ task. TaskTakesTurn region name terminal task reply new)) task.1
      (turn_of region name terminal reply new at takes) in
      moves_by reply (stays (context_of region terminal task.0) turned.reached reply turned.half_turn).answers
      (reported region new name terminal activity reply at is takes ∙ not_acting activity acting)

  -- a turn of any other isn't
  others_stay : (region : RegionState) (name : List ℕ) (terminal : TerminalState) (activity : Activity) → terminal_of region name ≡ Some terminal
      → IsActivity region terminal activity → is_acting activity ≡ false → (reply : TurnReply) (new : RegionState) → TakesTurn region name reply new → is_move reply ≡ true → ⊥
  others_stay region name terminal Running at is acting reply new takes moves = true≢false acting
  others_stay region name terminal (Due command) at is acting reply new takes moves = true≢false acting
  others_stay region name terminal NoTask at is acting reply new takes moves =
      true≢false (sym moves ∙ ap is_move (idle region name terminal reply new at (no_task region terminal is) takes))
  others_stay region name terminal (Waiting wait) at is acting reply new takes moves =
      waits_not reply (reported region new name terminal (Waiting wait) reply at is takes) moves

  -- a turn of a terminal that acts
  pub turned_by : (from : OrdersState) (it : Asked) → IsAsked from it.number it → is_acting it.doing ≡ true → (old new : RegionState) (reply : TurnReply) (to : OrdersState)
      → old ≡ from.region → TakesTurn old it.name reply new → to.region ≡ new → to.come ≡ from.come
      → to.incidents ≡ with_incident it.number (incident_of_turn reply) from.incidents → TurnMoves from it.number it.name to
  turned_by from it asked acting old new reply to given takes region come incidents =
      let there = subst (λ r. TakesTurn r it.name reply new) given takes in
      record {
        reply = reply;
        takes = subst (λ r. TakesTurn from.region it.name reply r) (sym region) there;
        moves = acting_moves from.region it.name asked.terminal it.doing (terminal_at from.region it.number it.name asked.terminal asked.sound.terminals_distinct asked.at)
            asked.is acting reply new there;
        come = come;
        incidents = incidents;
      }

-- whether there is a key, by whether it may come
pub key_none : (ready : Bool) (key : Option KeyLine) → None ≡ (if ready then key else None) → ready ≡ true → key ≡ None
key_none true key e is = sym e
key_none false key e is = absurd (true≢false (sym is))

pub key_some : (ready : Bool) (key : Option KeyLine) (is : KeyLine) → Some is ≡ (if ready then key else None) → (ready ≡ true) × (key ≡ Some is)
key_some true key is e = (refl, sym e)
key_some false key is e = absurd (none-some is (sym e))

-- of no keys none is a terminal's
pub no_keys : (keys : List KeyLine) (name : List ℕ) (came : ℕ) (key : KeyLine) → length keys ≡ 0 → slice_get (keys_of keys name) came ≡ Some key → ⊥
no_keys [] name came key none is = none-some key is
no_keys (first ∷ keys) name came key none is = omega (arith, none)

-- a move's number says which terminal's it is, and whether it is a turn
pub same_turn : (one other : ℕ) → turn_number one ≡ turn_number other → one ≡ other
same_turn one other e = omega (arith, e)

pub same_key : (one other : ℕ) → key_number one ≡ key_number other → one ≡ other
same_key one other e = omega (arith, e)

pub turn_no_key : (one other : ℕ) → turn_number one ≡ key_number other → ⊥
turn_no_key one other e = omega (arith, e)

same_states : (one other : OrdersState) → one.region ≡ other.region → one.come ≡ other.come → one.incidents ≡ other.incidents → one ≡ other
same_states one other p q r = λ i. record { region = p i; come = q i; incidents = r i }

-- ---- the terminal of a move is the one with its number
module _ (keys : Keys) (from to : OrdersState) (number : ℕ) (name : List ℕ) (terminal : TerminalState) (came : ℕ)
    (at : slice_get from.region.terminals number ≡ Some (name, terminal)) (come : slice_get from.come number ≡ Some came) where
  turn_by : (n : ℕ) (m_name : List ℕ) (m_terminal : TerminalState) → slice_get from.region.terminals n ≡ Some (m_name, m_terminal) → n ≡ number
      → TurnMoves from n m_name to → TurnMoves from number name to
  turn_by n m_name m_terminal m_at same t =
      let e = same_Some (m_name, m_terminal) (name, terminal) (sym m_at ∙ ap (λ k. slice_get from.region.terminals k) same ∙ at) in
      subst (λ k. TurnMoves from k name to) same (subst (λ (x : List ℕ × TerminalState). TurnMoves from n x.0 to) e t)

  key_by : (n : ℕ) (m_name : List ℕ) (m_terminal : TerminalState) (m_came : ℕ) → slice_get from.region.terminals n ≡ Some (m_name, m_terminal)
      → slice_get from.come n ≡ Some m_came → n ≡ number → KeyMoves keys from n m_name m_terminal m_came to → KeyMoves keys from number name terminal came to
  key_by n m_name m_terminal m_came m_at m_come same k =
      let e = same_Some (m_name, m_terminal) (name, terminal) (sym m_at ∙ ap (λ k. slice_get from.region.terminals k) same ∙ at) in
      let c = same_Some m_came came (sym m_come ∙ ap (λ k. slice_get from.come k) same ∙ come) in
      subst (λ x. KeyMoves keys from number name terminal x to) c
      (subst (λ k. KeyMoves keys from k name terminal m_came to) same
      (subst (λ (x : List ℕ × TerminalState). KeyMoves keys from n x.0 x.1 m_came to) e k))

  -- of its number a turn is, and a key
  pub of_turn : Moves keys from (turn_number number) to → TurnMoves from number name to
  of_turn m = elim m.by [
    | inl t ↦ turn_by m.number m.name m.terminal m.at (sym (same_turn number m.number t.0)) t.1
    | inr k ↦ absurd (turn_no_key number m.number k.0)
  ]

  pub of_key : Moves keys from (key_number number) to → KeyMoves keys from number name terminal came to
  of_key m = elim m.by [
    | inl t ↦ absurd (turn_no_key m.number number (sym t.0))
    | inr k ↦ key_by m.number m.name m.terminal m.came m.at m.come (sym (same_key number m.number k.0)) k.1
  ]

module _ (turns : TurnsDecide) (keyed : KeysDecide) where
  module _ (keys : Keys) (from one other : OrdersState) (number : ℕ) (name : List ℕ) where
    same_by_turns : TurnMoves from number name one → TurnMoves from number name other → one ≡ other
    same_by_turns t u =
        let e = turns from.region name t.reply u.reply one.region other.region t.takes u.takes in
        same_states one other e.1 (t.come ∙ sym u.come)
        (t.incidents ∙ ap (λ r. with_incident number (incident_of_turn r) from.incidents) e.0 ∙ sym u.incidents)

    module _ (terminal : TerminalState) (came : ℕ) where
      -- one key comes, and is answered in one way
      same_answers : (k : KeyMoves keys from number name terminal came one) (l : KeyMoves keys from number name terminal came other)
          → (k.comes.reply ≡ l.comes.reply) × (one.region ≡ other.region)
      same_answers k l =
          let same = same_Some k.key l.key (sym k.next ∙ l.next) in
          keyed from.region name (input_from l.key.aid l.key.bytes) k.comes.reply l.comes.reply one.region other.region
          (subst (λ (x : KeyLine). TakesKey from.region name (input_from x.aid x.bytes) k.comes.reply one.region) same k.comes.takes) l.comes.takes

      same_by_keys : KeyMoves keys from number name terminal came one → KeyMoves keys from number name terminal came other → one ≡ other
      same_by_keys k l =
          let e = same_answers k l in
          same_states one other e.1 (k.comes.come ∙ sym l.comes.come)
          (k.comes.incidents ∙ ap (λ r. with_incident number (incident_of_key r) from.incidents) e.0 ∙ sym l.comes.incidents)

  pub moves_decide : MovesDecide
  moves_decide keys from one other move distinct m n = elim m.by [
    | inl t ↦ same_by_turns keys from one other m.number m.name t.1
        (of_turn keys from other m.number m.name m.terminal m.came m.at m.come (subst (λ k. Moves keys from k other) t.0 n))
    | inr k ↦ same_by_keys keys from one other m.number m.name m.terminal m.came k.1
        (of_key keys from other m.number m.name m.terminal m.came m.at m.come (subst (λ x. Moves keys from x other) k.0 n))
  ]

-- ---- of a terminal that was asked
module _ (keys : Keys) (from : OrdersState) (number : ℕ) where
  -- a move of a number is of a terminal
  pub nowhere_goes : IsNowhere from number → (move : ℕ) → (move ≡ turn_number number) ⊎ (move ≡ key_number number) → (to : OrdersState) → Moves keys from move to → ⊥
  nowhere_goes none move is to m =
      none m.came (m.name, m.terminal) (subst (λ k. slice_get from.come k ≡ Some m.came) (same is m.by) m.come)
      (subst (λ k. slice_get from.region.terminals k ≡ Some (m.name, m.terminal)) (same is m.by) m.at)
    where
      same : (move ≡ turn_number number) ⊎ (move ≡ key_number number)
          → ((move ≡ turn_number m.number) × TurnMoves from m.number m.name to) ⊎ ((move ≡ key_number m.number) × KeyMoves keys from m.number m.name m.terminal m.came to)
          → m.number ≡ number
      same (inl e) (inl t) = same_turn m.number number (sym t.0 ∙ e)
      same (inl e) (inr k) = absurd (turn_no_key number m.number (sym e ∙ k.0))
      same (inr e) (inl t) = absurd (turn_no_key m.number number (sym t.0 ∙ e))
      same (inr e) (inr k) = same_key m.number number (sym k.0 ∙ e)

  -- of no keys none comes
  pub no_key_goes : length keys.lines ≡ 0 → (to : OrdersState) → Moves keys from (key_number number) to → ⊥
  no_key_goes none to m = elim m.by [
    | inl t ↦ turn_no_key m.number number (sym t.0)
    | inr k ↦ no_keys keys.lines m.name m.came k.1.key none k.1.next
  ]

  module _ (turns : TurnsDecide) (keyed : KeysDecide) (it : Asked) (asked : IsAsked from number it) where
    abbrev name : List ℕ
    name = it.name

    abbrev terminal : TerminalState
    terminal = asked.terminal

    abbrev came : ℕ
    came = it.came

    -- a turn, or a key, leads to that state alone
    pub turn_goes : (to : OrdersState) → TurnMoves from it.number name to → GoesOnly (Moves keys) from (turn_number number) to
    turn_goes to t =
        let goes : Moves keys from (turn_number number) to = record {
          number = number;
          name = name;
          terminal = terminal;
          at = asked.at;
          came = came;
          come = asked.come;
          by = inl (refl, subst (λ n. TurnMoves from n name to) asked.same t);
        } in
        record { goes = goes; only = λ other m. moves_decide turns keyed keys from other to (turn_number number) asked.sound.terminals_distinct m goes }

    pub key_goes : (to : OrdersState) → KeyMoves keys from number name terminal came to → GoesOnly (Moves keys) from (key_number number) to
    key_goes to k =
        let goes : Moves keys from (key_number number) to = record {
          number = number;
          name = name;
          terminal = terminal;
          at = asked.at;
          came = came;
          come = asked.come;
          by = inr (refl, k);
        } in
        record { goes = goes; only = λ other m. moves_decide turns keyed keys from other to (key_number number) asked.sound.terminals_distinct m goes }

  -- no turn of a terminal that doesn't act
  module _ (reported : WaitsAreReported) (stays : HalfTurnsStay) (it : Asked) (asked : IsAsked from number it) where
    pub no_turn_goes : is_acting it.doing ≡ false → (to : OrdersState) → Moves keys from (turn_number number) to → ⊥
    no_turn_goes acting to m =
        let t = of_turn keys from to number it.name asked.terminal it.came asked.at asked.come m in
        others_stay reported stays from.region it.name asked.terminal it.doing
        (terminal_at from.region number it.name asked.terminal asked.sound.terminals_distinct asked.at) asked.is acting t.reply to.region t.takes t.moves

  -- no key where none is left, or where it may not come
  module _ (once : ActivitiesDecide) (it : Asked) (asked : IsAsked from number it) where
    may_be : (ahead : Bool) (reply : KeyReply) → MayCome ahead from asked.terminal reply → (ahead || is_ready it.doing) ≡ true
    may_be true reply may = refl
    may_be false reply may = ap is_ready (once from.region asked.terminal it.doing may.activity asked.is may.is) ∙ may.ready

    pub none_left_goes : ((keys.typed_ahead || is_ready it.doing) ≡ true → slice_get (keys_of keys.lines it.name) it.came ≡ None)
        → (to : OrdersState) → Moves keys from (key_number number) to → ⊥
    none_left_goes none to m =
        let k = of_key keys from to number it.name asked.terminal it.came asked.at asked.come m in
        none-some k.key (sym (none (may_be keys.typed_ahead k.comes.reply k.may)) ∙ k.next)

  -- a key that was pressed
  module _ (keyed : KeysDecide) (it : Asked) (asked : IsAsked from number it) (key : KeyLine)
      (next : slice_get (keys_of keys.lines it.name) it.came ≡ Some key) (reply : KeyReply) (region : RegionState)
      (takes : TakesKey from.region it.name (input_from key.aid key.bytes) reply region) where
    untaken : (ahead : Bool) → has_come ahead reply ≡ false → (ahead ≡ true) × (is_taken reply ≡ false)
    untaken true not = (refl, not)
    untaken false not = absurd (true≢false not)

    -- that hasn't come
    pub untaken_goes : has_come keys.typed_ahead reply ≡ false → (to : OrdersState) → Moves keys from (key_number number) to → ⊥
    untaken_goes not to m =
        let has = untaken keys.typed_ahead not in
        let k = of_key keys from to number it.name asked.terminal it.came asked.at asked.come m in
        let same = same_Some k.key key (sym k.next ∙ next) in
        let e = keyed from.region it.name (input_from key.aid key.bytes) k.comes.reply reply to.region region
        (subst (λ (x : KeyLine). TakesKey from.region it.name (input_from x.aid x.bytes) k.comes.reply to.region) same k.comes.takes) takes in
        let taken = subst (λ b. MayCome b from asked.terminal k.comes.reply) has.0 k.may in
        true≢false (sym taken ∙ ap is_taken e.0 ∙ has.1)

    may_by : (ahead : Bool) → (ahead || is_ready it.doing) ≡ true → has_come ahead reply ≡ true → MayCome ahead from asked.terminal reply
    may_by true may has = has
    may_by false may has = record { activity = it.doing; is = asked.is; ready = may }

    pub pressed_moves : (keys.typed_ahead || is_ready it.doing) ≡ true → has_come keys.typed_ahead reply ≡ true → (to : OrdersState)
        → to.region ≡ region → to.come ≡ slice_set from.come number (it.came + 1)
        → to.incidents ≡ with_incident number (incident_of_key reply) from.incidents → KeyMoves keys from number it.name asked.terminal it.came to
    pressed_moves may has to same come incidents = record {
      key = key;
      next = next;
      comes = record {
        reply = reply;
        takes = subst (λ r. TakesKey from.region it.name (input_from key.aid key.bytes) reply r) (sym same) takes;
        come = come;
        incidents = incidents;
      };
      may = may_by keys.typed_ahead may has;
    }

module _ {State : Type 0} (Goes : State → ℕ → State → Type 0) (from : State) (number : ℕ) where
  pub goes_to_none : ((to : State) → Goes from number to → ⊥) → GoesTo Goes from number None
  unfolding GoesTo
  goes_to_none never = never

  pub goes_to_some : (to : State) → GoesOnly Goes from number to → GoesTo Goes from number (Some to)
  unfolding GoesTo
  goes_to_some to only = only

-- each move's number is below twice the number of terminals of which keys are counted
pub numbered : (keys : Keys) (from to : OrdersState) (move : ℕ) → Moves keys from move to → move < 2 * length from.come
numbered keys from to move m = elim m.by [
  | inl t ↦ omega (arith, t.0, slice_get_within from.come m.number m.came m.come)
  | inr k ↦ omega (arith, k.0, slice_get_within from.come m.number m.came m.come)
]
