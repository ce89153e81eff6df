-- Lists of turns and keys that are typed ahead are orders.
use Rattle.std.proofs.Common.{◌≡◌, ◌≢◌, ℕ, zero, suc, ◌+◌, List, [], ◌∷◌, ◌++◌, drop, length, length-set, map, filter, true, false, true≢false, cond, Option, Some, None, inl, inr, ap, refl, sym, subst, ◌∙◌, arith}
use Rattle.std.specs.Prelude.{get_or, option_map, replicate, slice_get, slice_set, MatchOption}
use Rattle.std.proofs.lemmas.List.{length-map, length-replicate}
use Rattle.std.specs.List.{AllByRecursion, IsDistinct}
use Rattle.std.specs.Map.{keys_of as names_of}
use Rattle.std.proofs.lemmas.Bool.{cases_Bool, cases_order}
use Rattle.std.proofs.lemmas.Map.Entries.{place_from_lookup}
use Rattle.std.proofs.lemmas.Map.Keys.{IsDistinct-head, IsDistinct-tail}
use Rattle.std.proofs.lemmas.Option.{none-some, same_Some, slice_get-get_or, slice_get-map, slice_get_within}
use Rattle.cx_ebcdic.specs.Names.{is_name}
use Rattle.cx_ebcdic.specs.declared.aids.Aid.{Aid}
use Rattle.cx_region_state.specs.State.{Input}
use Rattle.cx_ebcdic.specs.Facts.Names.{is_name-decides, is_name-laws}
use Rattle.cx_search.specs.Moves.{Leads}
use Rattle.cx_region.specs.Attach.{TakesKey, input_from}
use Rattle.cx_region.specs.Events.{Applies, Run}
use Rattle.cx_region.specs.State.{RegionState, TerminalState}
use Rattle.cx_region.specs.Tables.{terminal_of}
use Rattle.cx_region.specs.Turn.{TakesTurn}
use Rattle.cx_region.specs.declared.replies.Event.{Event}
use Rattle.cx_region.specs.declared.replies.Event.TheVariants as event
use Rattle.cx_region.specs.declared.replies.KeyReply.{KeyReply}
use Rattle.cx_region.specs.declared.replies.KeyReply.TheVariants as key
use Rattle.cx_region.specs.declared.replies.Reply.{Reply}
use Rattle.cx_region.specs.declared.replies.Reply.TheVariants as reply
use Rattle.cx_region_laws.specs.Laws.Regions.{KeysKeepToTheirTerminal, StillTurnsLeaveTheRegion, TurnsKeepToTheirTask, changes_nothing}
use Rattle.cx_region_state.specs.declared.replies.TurnReply.{TurnReply}
use Rattle.cx_region_state.specs.declared.replies.TurnReply.TheVariants as turn
use Rattle.cx_orders.specs.Incidents.{incident_of_key, incident_of_turn, with_incident}
use Rattle.cx_orders.specs.Laws.{AreFirstKeys, AreTaken, IsOrdered, TypedAheadAreOrders, event_of_key, is_key_at}
use Rattle.cx_orders.specs.Moves.{MayCome, Moves, begun, is_move, is_taken, key_number, keys_of, turn_number}
use Rattle.cx_orders.specs.declared.states.KeyLine.{KeyLine}
use Rattle.cx_orders.specs.declared.states.Keys.{Keys}
use Rattle.cx_orders.specs.declared.states.OrdersState.{OrdersState}

-- ---- lists
-- the item at a place that is set, and those at others
set_there : {X : Type 0} (xs : List X) (i : ℕ) (x y : X) → slice_get (slice_set xs i x) i ≡ Some y → y ≡ x
set_there [] zero x y at = absurd (none-some y at)
set_there [] (suc i) x y at = absurd (none-some y at)
set_there (z ∷ xs) zero x y at = sym (same_Some x y at)
set_there (z ∷ xs) (suc i) x y at = set_there xs i x y at

set_elsewhere : {X : Type 0} (xs : List X) (i j : ℕ) (x : X) → (j ≡ i → ⊥) → slice_get (slice_set xs i x) j ≡ slice_get xs j
set_elsewhere [] zero j x not = refl
set_elsewhere [] (suc i) j x not = refl
set_elsewhere (z ∷ xs) zero zero x not = absurd (not refl)
set_elsewhere (z ∷ xs) zero (suc j) x not = refl
set_elsewhere (z ∷ xs) (suc i) zero x not = refl
set_elsewhere (z ∷ xs) (suc i) (suc j) x not = set_elsewhere xs i j x (λ e. not (ap suc e))

one_more : (n : ℕ) → n + 1 ≡ suc n
one_more n = omega arith

drop_none : {X : Type 0} (xs : List X) → drop 0 xs ≡ xs
drop_none [] = refl
drop_none (x ∷ xs) = refl

-- what is left of a list that begins so
record IsNext {X Y : Type 0} (f : X → Y) (xs : List X) (came : ℕ) (y : Y) (ys : List Y) : Type 0 where
  item : X
  at : slice_get xs came ≡ Some item
  is : f item ≡ y
  rest : ys ≡ map f (drop (suc came) xs)

head_same : {Y : Type 0} (x y : Y) (xs ys : List Y) → x ∷ xs ≡ y ∷ ys → x ≡ y
head_same x y xs ys e = same_Some x y (ap (λ zs. slice_get zs 0) e)

tail_same : {Y : Type 0} (x y : Y) (xs ys : List Y) → x ∷ xs ≡ y ∷ ys → xs ≡ ys
tail_same x y xs ys e = ap (λ zs. drop 1 zs) e

next_is : {X Y : Type 0} (f : X → Y) (xs : List X) (came : ℕ) (y : Y) (ys : List Y) → y ∷ ys ≡ map f (drop came xs) → IsNext f xs came y ys
next_is f [] zero y ys e = absurd (none-some y (sym (ap (λ zs. slice_get zs 0) e)))
next_is f [] (suc came) y ys e = absurd (none-some y (sym (ap (λ zs. slice_get zs 0) e)))
next_is f (x ∷ xs) zero y ys e = record {
  item = x;
  at = refl;
  is = sym (head_same y (f x) ys (map f xs) e);
  rest = tail_same y (f x) ys (map f xs) e;
}
next_is f (x ∷ xs) (suc came) y ys e =
    let it = next_is f xs came y ys e in
    record { item = it.item; at = it.at; is = it.is; rest = it.rest }

-- ---- names
all_at : {X : Type 0} (P : X → Type 0) (xs : List X) (i : ℕ) (x : X) → AllByRecursion P xs → slice_get xs i ≡ Some x → P x
all_at P [] i x all at = absurd (none-some x at)
all_at P (y ∷ xs) zero x all at = subst P (same_Some y x at) all.0
all_at P (y ∷ xs) (suc i) x all at = all_at P xs i x all.1 at

-- two at other places are others
apart : (names : List (List ℕ)) → IsDistinct is_name names → (i j : ℕ) (a b : List ℕ) → slice_get names i ≡ Some a → slice_get names j ≡ Some b
    → (i ≡ j → ⊥) → is_name a b ≡ false
apart [] distinct i j a b at there not = absurd (none-some a at)
apart (x ∷ xs) distinct zero zero a b at there not = absurd (not refl)
apart (x ∷ xs) distinct zero (suc j) a b at there not =
    subst (λ n. is_name n b ≡ false) (same_Some x a at) (all_at (λ y. is_name x y ≡ false) xs j b (IsDistinct-head is_name x xs distinct) there)
apart (x ∷ xs) distinct (suc i) zero a b at there not =
    is_name-laws.symm a b ∙ subst (λ n. is_name n a ≡ false) (same_Some x b there) (all_at (λ y. is_name x y ≡ false) xs i a (IsDistinct-head is_name x xs distinct) at)
apart (x ∷ xs) distinct (suc i) (suc j) a b at there not = apart xs (IsDistinct-tail is_name x xs distinct) i j a b at there (λ e. not (ap suc e))

names_item : (region : RegionState) (number : ℕ) (name : List ℕ) (terminal : TerminalState) → slice_get region.terminals number ≡ Some (name, terminal)
    → slice_get (names_of region.terminals) number ≡ Some name
names_item region number name terminal at =
    slice_get-map (λ (entry : List ℕ × TerminalState). entry.0) region.terminals number ∙ ap (option_map (λ (entry : List ℕ × TerminalState). entry.0)) at

many_names : (region : RegionState) → length (names_of region.terminals) ≡ length region.terminals
many_names region = length-map region.terminals (λ (entry : List ℕ × TerminalState). entry.0)

-- ---- answers
still_answer : (answer : TurnReply) → is_move answer ≡ false → changes_nothing answer ≡ true
still_answer turn.Idle is = refl
still_answer turn.NoSuchTerminal is = refl
still_answer turn.AtCommand is = absurd (true≢false is)
still_answer (turn.Performed condition) is = absurd (true≢false is)
still_answer turn.Entered is = absurd (true≢false is)
still_answer turn.Returned is = absurd (true≢false is)
still_answer turn.Waiting is = refl
still_answer (turn.TookLabel condition) is = absurd (true≢false is)
still_answer (turn.TookExit code) is = absurd (true≢false is)
still_answer (turn.Abended code) is = absurd (true≢false is)
still_answer turn.Ended is = absurd (true≢false is)

-- the terminal is there, where it is so said of one that isn't
is_there : (found : Option TerminalState) (No : Type 0) (Is : TerminalState → Type 0) → MatchOption found No Is → (No → ⊥)
    → (terminal : TerminalState) × (found ≡ Some terminal)
is_there None No Is none not = absurd (not none)
is_there (Some terminal) No Is is not = (terminal, refl)

turn_there : (region : RegionState) (name : List ℕ) (answer : TurnReply) (new : RegionState) → TakesTurn region name answer new → is_move answer ≡ true
    → (terminal : TerminalState) × (terminal_of region name ≡ Some terminal)
unfolding TakesTurn
turn_there region name answer new takes moves =
    is_there (terminal_of region name) _ _ takes (λ no. true≢false (sym moves ∙ ap is_move no.0))

key_there : (region : RegionState) (name : List ℕ) (input : Input) (answer : KeyReply) (new : RegionState) → TakesKey region name input answer new
    → answer ≢ key.NoSuchTerminal → (terminal : TerminalState) × (terminal_of region name ≡ Some terminal)
unfolding TakesKey
key_there region name input answer new takes there = is_there (terminal_of region name) _ _ takes (λ no. there no.0)

-- ---- states
module _ (turned : TurnsKeepToTheirTask) (keyed : KeysKeepToTheirTerminal) (still : StillTurnsLeaveTheRegion) (keys : Keys)
    (ahead : keys.typed_ahead ≡ true) where
  record IsLeft (events : List Event) (name : List ℕ) (came : ℕ) : Type 0 where
    left : List Event
    are : filter (is_key_at name) events ++ left ≡ map event_of_key (drop came (keys_of keys.lines name))

  -- of each terminal it is known how many keys came, and those of the events come next
  record Stands (s : OrdersState) (events : List Event) : Type 0 where
    distinct : IsDistinct is_name (names_of s.region.terminals)
    many : length s.come ≡ length s.region.terminals
    left : (number came : ℕ) (name : List ℕ) → slice_get (names_of s.region.terminals) number ≡ Some name → slice_get s.come number ≡ Some came
        → IsLeft events name came

  record IsAt (s : OrdersState) (name : List ℕ) (terminal : TerminalState) : Type 0 where
    number : ℕ
    came : ℕ
    at : slice_get s.region.terminals number ≡ Some (name, terminal)
    come : slice_get s.come number ≡ Some came

  placed : (s : OrdersState) → length s.come ≡ length s.region.terminals → (name : List ℕ) (terminal : TerminalState)
      → terminal_of s.region name ≡ Some terminal → IsAt s name terminal
  placed s many name terminal there =
      let entry = place_from_lookup (is_name name) s.region.terminals terminal there in
      let same = (is_name-decides name entry.1).0 entry.3 in
      let within = slice_get_within s.region.terminals entry.0 (entry.1, terminal) entry.2 in
      record {
        number = entry.0;
        came = get_or s.come entry.0 0;
        at = subst (λ n. slice_get s.region.terminals entry.0 ≡ Some (n, terminal)) (sym same) entry.2;
        come = slice_get-get_or s.come entry.0 0 (omega (arith, within, many));
      }

  ordered_by : (from between : OrdersState) (to : RegionState) (move : ℕ) → Moves keys from move between → IsOrdered keys between to → IsOrdered keys from to
  unfolding Leads
  ordered_by from between to move goes rest = record {
    moves = move ∷ rest.moves;
    to = rest.to;
    leads = record { between = between; goes = goes; rest = rest.leads };
    is = rest.is;
  }

  same_many : (s : OrdersState) (between : RegionState) (come : List ℕ) → length s.come ≡ length s.region.terminals
      → names_of between.terminals ≡ names_of s.region.terminals → length come ≡ length s.come → length come ≡ length between.terminals
  same_many s between come many names same =
      let one = many_names s.region in
      let other = many_names between in
      let as_many = ap (λ (ns : List (List ℕ)). length ns) names in
      omega (arith, one, other, as_many, many, same)

  -- ---- a turn
  abbrev after_turn : OrdersState → RegionState → ℕ → TurnReply → OrdersState
  after_turn s between number answer =
      record { region = between; come = s.come; incidents = with_incident number (incident_of_turn answer) s.incidents }

  turn_stands : (s : OrdersState) (events : List Event) (name : List ℕ) (answer : TurnReply) (between : RegionState) (number : ℕ)
      → Stands s (event.Turn name ∷ events) → TakesTurn s.region name answer between → Stands (after_turn s between number answer) events
  turn_stands s events name answer between number stands takes =
      let names = (turned s.region name answer between takes).names in
      record {
        distinct = subst (IsDistinct is_name) (sym names) stands.distinct;
        many = same_many s between s.come stands.many names refl;
        left = λ k came other at come.
            let it = stands.left k came other (ap (λ ns. slice_get ns k) (sym names) ∙ at) come in
            record { left = it.left; are = it.are };
      }

  turn_moves : (s : OrdersState) (name : List ℕ) (terminal : TerminalState) (answer : TurnReply) (between : RegionState)
      (p : IsAt s name terminal) → TakesTurn s.region name answer between → is_move answer ≡ true
      → Moves keys s (turn_number p.number) (after_turn s between p.number answer)
  turn_moves s name terminal answer between p takes moves = record {
    number = p.number;
    name = name;
    terminal = terminal;
    at = p.at;
    came = p.came;
    come = p.come;
    by = inl (refl, record { reply = answer; takes = takes; moves = moves; come = refl; incidents = refl });
  }

  -- ---- a key
  abbrev after_key : OrdersState → RegionState → ℕ → ℕ → KeyReply → OrdersState
  after_key s between number came answer =
      record {
        region = between;
        come = slice_set s.come number (came + 1);
        incidents = with_incident number (incident_of_key answer) s.incidents;
      }

  -- the key is the next of its terminal's
  key_next : (events : List Event) (name : List ℕ) (aid : Aid) (bytes : List ℕ) (came : ℕ) (it : IsLeft (event.Key name aid bytes ∷ events) name came)
      → IsNext event_of_key (keys_of keys.lines name) came (event.Key name aid bytes) (filter (is_key_at name) events ++ it.left)
  key_next events name aid bytes came it =
      next_is event_of_key (keys_of keys.lines name) came (event.Key name aid bytes) (filter (is_key_at name) events ++ it.left)
      (ap (λ b. cond b (event.Key name aid bytes ∷ filter (is_key_at name) events) (filter (is_key_at name) events) ++ it.left)
      (sym ((is_name-decides name name).1 refl))
      ∙ it.are)

  key_stands : (s : OrdersState) (events : List Event) (name : List ℕ) (aid : Aid) (bytes : List ℕ) (terminal : TerminalState) (answer : KeyReply)
      (between : RegionState) (p : IsAt s name terminal) → Stands s (event.Key name aid bytes ∷ events)
      → TakesKey s.region name (input_from aid bytes) answer between → Stands (after_key s between p.number p.came answer) events
  key_stands s events name aid bytes terminal answer between p stands takes =
      let names = (keyed s.region name (input_from aid bytes) answer between takes).names in
      let here = names_item s.region p.number name terminal p.at in
      record {
        distinct = subst (IsDistinct is_name) (sym names) stands.distinct;
        many = same_many s between (slice_set s.come p.number (p.came + 1)) stands.many names (length-set s.come p.number (p.came + 1));
        left = λ k came other at come.
            let there = ap (λ ns. slice_get ns k) (sym names) ∙ at in
            elim (cases_order k p.number) [
              | inl e ↦ same k came other e (subst (λ n. slice_get (names_of s.region.terminals) n ≡ Some other) e there)
                  (subst (λ n. slice_get (slice_set s.come p.number (p.came + 1)) n ≡ Some came) e come) here
              | inr (inl l) ↦ elsewhere k came other (λ e. omega (arith, l, e)) there come here
              | inr (inr l) ↦ elsewhere k came other (λ e. omega (arith, l, e)) there come here
            ];
      }
    where
      same : (k came : ℕ) (other : List ℕ) → k ≡ p.number → slice_get (names_of s.region.terminals) p.number ≡ Some other
          → slice_get (slice_set s.come p.number (p.came + 1)) p.number ≡ Some came → slice_get (names_of s.region.terminals) p.number ≡ Some name
          → IsLeft events other came
      same k came other e there come here =
          let it = stands.left p.number p.came name here p.come in
          let next = key_next events name aid bytes p.came it in
          let is_name_here = same_Some name other (sym here ∙ there) in
          let is_came = set_there s.come p.number (p.came + 1) came come in
          subst (λ n. IsLeft events n came) is_name_here (subst (λ n. IsLeft events name n) (sym is_came)
          (record {
            left = it.left;
            are = subst (λ n. filter (is_key_at name) events ++ it.left ≡ map event_of_key (drop n (keys_of keys.lines name)))
                (sym (one_more p.came)) next.rest;
          }))

      elsewhere : (k came : ℕ) (other : List ℕ) → (k ≡ p.number → ⊥) → slice_get (names_of s.region.terminals) k ≡ Some other
          → slice_get (slice_set s.come p.number (p.came + 1)) k ≡ Some came → slice_get (names_of s.region.terminals) p.number ≡ Some name
          → IsLeft events other came
      elsewhere k came other not there come here =
          let it = stands.left k came other there (sym (set_elsewhere s.come p.number k (p.came + 1) not) ∙ come) in
          let others = apart (names_of s.region.terminals) stands.distinct k p.number other name there here not in
          record {
            left = it.left;
            are = ap (λ b. cond b (event.Key name aid bytes ∷ filter (is_key_at other) events) (filter (is_key_at other) events) ++ it.left) (sym others)
                ∙ it.are;
          }

  key_moves : (s : OrdersState) (events : List Event) (name : List ℕ) (aid : Aid) (bytes : List ℕ) (terminal : TerminalState) (answer : KeyReply)
      (between : RegionState) (p : IsAt s name terminal) → Stands s (event.Key name aid bytes ∷ events)
      → TakesKey s.region name (input_from aid bytes) answer between → is_taken answer ≡ true
      → Moves keys s (key_number p.number) (after_key s between p.number p.came answer)
  key_moves s events name aid bytes terminal answer between p stands takes taken =
      let it = stands.left p.number p.came name (names_item s.region p.number name terminal p.at) p.come in
      let next = key_next events name aid bytes p.came it in
      let same : (next.item.aid ≡ aid) × (next.item.bytes ≡ bytes) = of_event next.item next.is in
      record {
        number = p.number;
        name = name;
        terminal = terminal;
        at = p.at;
        came = p.came;
        come = p.come;
        by = inr (
          refl,
          record {
            key = next.item;
            next = next.at;
            comes = record {
              reply = answer;
              takes = subst (λ a. TakesKey s.region name (input_from a next.item.bytes) answer between) (sym same.0)
                  (subst (λ b. TakesKey s.region name (input_from aid b) answer between) (sym same.1) takes);
              come = refl;
              incidents = refl;
            };
            may = subst (λ b. MayCome b s terminal answer) (sym ahead) taken;
          },
        );
      }
    where
      of_event : (k : KeyLine) → event.Key k.name k.aid k.bytes ≡ event.Key name aid bytes → (k.aid ≡ aid) × (k.bytes ≡ bytes)
      of_event k e = (cc, cc)

  -- ---- a list
  ordered : (events : List Event) (replies : List Reply) (s : OrdersState) (to : RegionState) → Stands s events → Run s.region events replies to
      → AreTaken events replies → IsOrdered keys s to
  unfolding Run Applies Leads
  ordered [] [] s to stands run taken = record { moves = []; to = s; leads = refl; is = sym run }
  ordered [] (r ∷ replies) s to stands run taken = absurd taken
  ordered (event.Turn name ∷ events) (reply.Turn answer ∷ replies) s to stands run taken = elim (cases_Bool (is_move answer)) [
    | inl moves ↦
        let there = turn_there s.region name answer run.0 run.1 moves in
        let p = placed s stands.many name there.0 there.1 in
        ordered_by s (after_turn s run.0 p.number answer) to (turn_number p.number) (turn_moves s name there.0 answer run.0 p run.1 moves)
        (ordered events replies (after_turn s run.0 p.number answer) to (turn_stands s events name answer run.0 p.number stands run.1) run.2 taken)
    | inr rests ↦
        let same = still s.region name answer run.0 run.1 (still_answer answer rests) in
        ordered events replies s to (record {
          distinct = stands.distinct;
          many = stands.many;
          left = λ k came other at come. let it = stands.left k came other at come in record { left = it.left; are = it.are };
        }) (subst (λ r. Run r events replies to) same run.2) taken
  ]
  ordered (event.Key name aid bytes ∷ events) (reply.Key answer ∷ replies) s to stands run taken =
      let there = key_there s.region name (input_from aid bytes) answer run.0 run.1 taken.1 in
      let p = placed s stands.many name there.0 there.1 in
      ordered_by s (after_key s run.0 p.number p.came answer) to (key_number p.number)
      (key_moves s events name aid bytes there.0 answer run.0 p stands run.1 taken.0)
      (ordered events replies (after_key s run.0 p.number p.came answer) to
      (key_stands s events name aid bytes there.0 answer run.0 p stands run.1) run.2 taken.2)
  ordered _ _ s to stands run taken = absurd taken

  none_came : (region : RegionState) (number came : ℕ) → slice_get (replicate (length region.terminals) 0) number ≡ Some came → came ≡ 0
  none_came region number came at = of_zeros (length region.terminals) number at
    where
      of_zeros : (many k : ℕ) → slice_get (replicate many 0) k ≡ Some came → came ≡ 0
      of_zeros zero k at = absurd (none-some came at)
      of_zeros (suc many) zero at = sym (same_Some 0 came at)
      of_zeros (suc many) (suc k) at = of_zeros many k at

  begun_stands : (region : RegionState) (events : List Event) → IsDistinct is_name (names_of region.terminals)
      → ((name : List ℕ) → AreFirstKeys keys.lines events name) → Stands (begun region) events
  begun_stands region events distinct first = record {
    distinct = distinct;
    many = length-replicate (length region.terminals) 0;
    left = λ k came name at come.
        let it = first name in
        subst (λ n. IsLeft events name n) (sym (none_came region k came come))
        (record { left = it.left; are = it.are ∙ ap (map event_of_key) (sym (drop_none (keys_of keys.lines name))) });
  }

pub typed_are_orders : TurnsKeepToTheirTask → KeysKeepToTheirTerminal → StillTurnsLeaveTheRegion → TypedAheadAreOrders
typed_are_orders turned keyed still keys region to events replies ahead distinct run taken first =
    ordered turned keyed still keys ahead events replies (begun region) to (begun_stands turned keyed still keys ahead region events distinct first) run taken
