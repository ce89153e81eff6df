-- What always holds of a region is kept by a whole turn.
use Rattle.std.proofs.Common.{◌≡◌, ℕ, suc, ◌<◌, Bool, true, false, Option, Some, None, List, [], ◌∷◌, length, refl, sym, ◌∙◌, ap, subst, arith, inl, inr, is_some}
use Rattle.std.specs.Prelude.{◌==◌, ◌||◌, not, if◌then◌else◌, MatchOption, ⊤}
use Rattle.std.specs.List.{AllByRecursion}
use Rattle.std.specs.Map.{lookup, set_value}
use Rattle.std.proofs.lemmas.Bool.{cases_Bool, cases_eq, eq-eqb, ne_eqb}
use Rattle.std.proofs.lemmas.Option.{none-some, same_Some}
use Rattle.std.proofs.lemmas.Map.{length-set_value}
use Rattle.cx_storage.specs.declared.areas.Area.{Area}
use Rattle.cx_storage.specs.Storage.{Storage, area_at, is_of_other_slot, with_areas_kept, IsSoundStorage}
use Rattle.cx_storage.specs.Facts.Areas.{area_after_free, area_of_areas}
use Rattle.cx_storage.specs.Laws.Areas.{kept_only}
use Rattle.cx_program.specs.declared.level.Level.{Level}
use Rattle.cx_service.specs.Queues.{AreSoundQueues}
use Rattle.cx_service.specs.Resources.{AreSoundResources, Resources, without_owner}
use Rattle.cx_region_state.specs.declared.replies.TurnReply.{TurnReply}
use Rattle.cx_region_state.specs.declared.replies.TurnReply.TheVariants as turn
use Rattle.cx_region_state.specs.Replies.{is_over}
use Rattle.cx_region_state.specs.State.{SharedState, TaskContext, TaskState}
use Rattle.cx_region_state.specs.Facts.Areas.{all_areas_same, area_kept_any, kept_pass}
use Rattle.cx_region_task.specs.Laws.HalfTurns.{HalfTurnKeeps, HalfTurnsKeep, others_areas}
use Rattle.cx_region_task.specs.Sound.{IsSoundLevel, IsSoundTask}
use Rattle.cx_base.specs.Facts.Tables.{distinct-set_value, found_meets}
use Rattle.cx_region.specs.State.{RegionState, TerminalState}
use Rattle.cx_ebcdic.specs.Names.{is_name}
use Rattle.cx_region.specs.Turn.{TaskTakesTurn, TakesTurn, put_back, context_of, task_after}
use Rattle.cx_region.specs.Sound.{AreNumbered, IsOwned, IsSound, IsSoundTerminal, is_live}
use Rattle.cx_region.specs.Facts.SoundDefining.{all_weaker}
use Rattle.cx_region.specs.Facts.Live.{live-set_value, numbered-set_value, slot_from}

-- ---- areas and resources of others
-- areas of other slots stay where they were
abbrev pub OthersStay : ℕ → Storage → Storage → Type 0
OthersStay slot s t = (x : ℕ) (area : Area) → area_at s x ≡ Some area → (area.owner.slot ≡ slot → ⊥) → area_at t x ≡ Some area

found_kept : (keeps : Area → Bool) (o : Option Area) (area : Area) → kept_only keeps o ≡ Some area → o ≡ Some area
found_kept keeps None area e = absurd (none-some area e)
found_kept keeps (Some found) area e = elim (cases_Bool (keeps found)) [
  | inl k ↦ rw k at e
  | inr k ↦ absurd (none-some area (rw k at e))
]

others_stay : (slot : ℕ) (s t : Storage) → IsSoundStorage t → others_areas slot t ≡ others_areas slot s → OthersStay slot s t
others_stay slot s t ok e x area stands other =
    let keeps : Area → Bool = is_of_other_slot slot in
    let there : area_at (with_areas_kept keeps s) x ≡ Some area = area_kept_any s keeps x area stands (rw (ne_eqb area.owner.slot slot other) refl) in
    let kept : area_at (with_areas_kept keeps t) x ≡ Some area = area_of_areas (with_areas_kept keeps t) (with_areas_kept keeps s) x e ∙ there in
    found_kept keeps (area_at t x) area (sym (area_after_free t keeps x ok) ∙ kept)

from_kept : (P : Area → Type 0) (slot : ℕ) (t : Storage) → ((area : Area) → area.owner.slot ≡ slot → P area) → AllByRecursion (λ h. P h.area) (with_areas_kept (is_of_other_slot slot) t) → AllByRecursion (λ h. P h.area) t
unfolding with_areas_kept
from_kept P slot [] own all = tt
from_kept P slot (h ∷ hs) own all = elim (cases_eq h.area.owner.slot slot) [
  | inl e ↦ (own h.area e, from_kept P slot hs own (rw (eq-eqb h.area.owner.slot slot e) at all))
  | inr ne ↦ let both = rw (ne_eqb h.area.owner.slot slot ne) at all in (both.0, from_kept P slot hs own both.1)
]

from_others : (P : ℕ → Type 0) (slot : ℕ) (rs : Resources) → P slot → AllByRecursion (λ e. P e.1.owner) (without_owner rs slot) → AllByRecursion (λ e. P e.1.owner) rs
unfolding without_owner
from_others P slot [] own all = tt
from_others P slot (e ∷ rs) own all = elim (cases_eq e.1.owner slot) [
  | inl is ↦ (subst P (sym is) own, from_others P slot rs own (rw (eq-eqb e.1.owner slot is) at all))
  | inr ne ↦ let both = rw (ne_eqb e.1.owner slot ne) at all in (both.0, from_others P slot rs own both.1)
]

-- ---- the other terminals' tasks
other_level : (slot mine : ℕ) (s t : Storage) → OthersStay mine s t → (slot ≡ mine → ⊥) → (level : Level) → IsSoundLevel s slot level → IsSoundLevel t slot level
other_level slot mine s t stay apart level ok = record { stg = stay level.stg _ ok.stg apart; pushes = ok.pushes }

other_terminal : (mine : ℕ) (s t : Storage) (terminal : TerminalState) → OthersStay mine s t → (terminal.entry.slot ≡ mine → ⊥) → IsSoundTerminal s terminal → IsSoundTerminal t terminal
other_terminal mine s t terminal stay apart ok = by_task terminal.task ok
  where
    by_task : (o : Option TaskState) → MatchOption o ⊤ (λ task. IsSoundTask s terminal.entry.slot task) → MatchOption o ⊤ (λ task. IsSoundTask t terminal.entry.slot task)
    by_task None own = tt
    by_task (Some task) own =
        record {
          eib = stay task.eib _ own.eib apart;
          current = other_level terminal.entry.slot mine s t stay apart task.levels.current own.current;
          callers = all_weaker (IsSoundLevel s terminal.entry.slot) (IsSoundLevel t terminal.entry.slot) task.levels.callers (other_level terminal.entry.slot mine s t stay apart) own.callers;
          few = own.few;
          apart = own.apart;
        }

others_above : (from mine : ℕ) (ts : List (List ℕ × TerminalState)) (s t : Storage) → AreNumbered from ts → mine < from → OthersStay mine s t
    → AllByRecursion (λ e. IsSoundTerminal s e.1) ts → AllByRecursion (λ e. IsSoundTerminal t e.1) ts
others_above from mine [] s t numbered above stay all = tt
others_above from mine (e ∷ ts) s t numbered above stay all =
    (other_terminal mine s t e.1 stay (λ is. absurd (omega (arith, numbered.0, is))) all.0, others_above (suc from) mine ts s t numbered.1 (omega arith) stay all.1)

tasks_put : (from : ℕ) (ts : List (List ℕ × TerminalState)) (test : List ℕ → Bool) (t u : TerminalState) (s s' : Storage) → AreNumbered from ts → lookup test ts ≡ Some t → OthersStay t.entry.slot s s'
    → AllByRecursion (λ e. IsSoundTerminal s e.1) ts → IsSoundTerminal s' u → AllByRecursion (λ e. IsSoundTerminal s' e.1) (set_value test ts u)
tasks_put from [] test t u s s' numbered there stay all own = tt
tasks_put from (x ∷ ts) test t u s s' numbered there stay all own = elim (cases_Bool (test x.0)) [
  | inl on ↦
      let is : x.1.entry.slot ≡ t.entry.slot = ap (λ (v : TerminalState). v.entry.slot) (same_Some x.1 t (rw on at there)) in
      rw on (own, others_above (suc from) t.entry.slot ts s s' numbered.1 (omega (arith, numbered.0)) stay all.1)
  | inr off ↦
      let later : lookup test ts ≡ Some t = rw off at there in
      let above = slot_from (suc from) ts test t numbered.1 later in
      rw off (other_terminal t.entry.slot s s' x.1 stay (λ is. absurd (omega (arith, numbered.0, is))) all.0, tasks_put (suc from) ts test t u s s' numbered.1 later stay all.1 own)
]

-- ---- a terminal put back, whose task goes on or has ended
sound_back : (r : RegionState) (name : List ℕ) (t u : TerminalState) (shared : SharedState) → IsSound r → lookup (is_name name) r.terminals ≡ Some t → u.entry.slot ≡ t.entry.slot
    → shared.programs ≡ r.shared.programs → IsSoundStorage shared.storage → AreSoundQueues shared.queues → AreSoundResources shared.resources
    → OthersStay t.entry.slot r.shared.storage shared.storage → IsSoundTerminal shared.storage u
    → AllByRecursion (λ held. IsOwned (set_value (is_name name) r.terminals u) held.area) shared.storage
    → AllByRecursion (λ e. is_live (set_value (is_name name) r.terminals u) e.1.owner ≡ true) shared.resources
    → IsSound (record r { shared = shared; terminals = set_value (is_name name) r.terminals u })
sound_back r name t u shared ok there same programs sound queues_ok resources_ok stay own owned held =
    let low = slot_from 1 r.terminals (is_name name) t ok.numbered there in
    let most = ok.terminals_few in
    let size : length (set_value (is_name name) r.terminals u) ≡ length r.terminals = length-set_value (is_name name) r.terminals u in
    record {
      storage = sound;
      cwa_stands = stay 0x001000 _ ok.cwa_stands (λ e. absurd (omega (arith, e)));
      programs_distinct = rw programs ok.programs_distinct;
      transactions_distinct = ok.transactions_distinct;
      terminals_distinct = distinct-set_value is_name (is_name name) r.terminals u ok.terminals_distinct;
      programs_few = rw programs ok.programs_few;
      transactions_few = ok.transactions_few;
      terminals_few = omega arith;
      programs_sound = rw programs ok.programs_sound;
      numbered = numbered-set_value 1 r.terminals (is_name name) t u ok.numbered there same;
      tasks = tasks_put 1 r.terminals (is_name name) t u r.shared.storage shared.storage ok.numbered there stay ok.tasks own;
      areas = owned;
      resources = held;
      queues_sound = queues_ok;
      resources_sound = resources_ok;
      time = ok.time;
      date = ok.date;
      counter = ok.counter;
    }

-- ---- which slots have a task then
or_keeps : (zero before after : Bool) → (before ≡ true → after ≡ true) → zero || before ≡ true → zero || after ≡ true
or_keeps true before after step e = refl
or_keeps false before after step e = step e

live_off : (r : RegionState) (name : List ℕ) (t u : TerminalState) (slot : ℕ) → IsSound r → lookup (is_name name) r.terminals ≡ Some t → u.entry.slot ≡ t.entry.slot → slot == t.entry.slot ≡ false
    → is_live r.terminals slot ≡ true → is_live (set_value (is_name name) r.terminals u) slot ≡ true
live_off r name t u slot ok there same apart was =
    live-set_value 1 r.terminals (is_name name) t u slot ok.numbered there same ∙ elim (cases_eq t.entry.slot slot) [
      | inl e ↦ absurd (let yes' : slot == t.entry.slot ≡ true = eq-eqb slot t.entry.slot (sym e) in cc)
      | inr ne ↦ rw (ne_eqb t.entry.slot slot ne) was
    ]

not_true : (b : Bool) → not b ≡ true → b ≡ false
not_true true e = cc
not_true false e = refl

-- resources that others own
released : (r : RegionState) (name : List ℕ) (t u : TerminalState) → IsSound r → lookup (is_name name) r.terminals ≡ Some t → u.entry.slot ≡ t.entry.slot → (rs : Resources)
    → AllByRecursion (λ e. is_live r.terminals e.1.owner ≡ true) rs → AllByRecursion (λ e. is_live (set_value (is_name name) r.terminals u) e.1.owner ≡ true) (without_owner rs t.entry.slot)
unfolding without_owner
released r name t u ok there same [] all = tt
released r name t u ok there same (e ∷ rs) all = elim (cases_Bool (not (e.1.owner == t.entry.slot))) [
  | inl keep ↦ rw keep (live_off r name t u e.1.owner ok there same (not_true (e.1.owner == t.entry.slot) keep) all.0, released r name t u ok there same rs all.1)
  | inr gone ↦ rw gone (released r name t u ok there same rs all.1)
]

-- ---- the turn
pub task_of_terminal : (s : Storage) (t : TerminalState) (task : TaskState) → t.task ≡ Some task → IsSoundTerminal s t → IsSoundTask s t.entry.slot task
task_of_terminal s t task at own = by_task t.task at own
  where
    by_task : (o : Option TaskState) → o ≡ Some task → MatchOption o ⊤ (λ k. IsSoundTask s t.entry.slot k) → IsSoundTask s t.entry.slot task
    by_task None e own = cc
    by_task (Some k) e own = subst (IsSoundTask s t.entry.slot) (same_Some k task e) own

live_task : (over : Bool) (task : TaskState) → over ≡ false → is_some (if over then None else Some task) ≡ true
live_task true task e = cc
live_task false task e = refl

own_live : (over : Bool) (s : Storage) (slot : ℕ) (task : TaskState) → over ≡ false → IsSoundTask s slot task → MatchOption (if over then None else Some task) ⊤ (λ k. IsSoundTask s slot k)
own_live true s slot task e own = cc
own_live false s slot task e own = own

own_over : (over : Bool) (s : Storage) (slot : ℕ) (task : TaskState) → over ≡ true → MatchOption (if over then None else Some task) ⊤ (λ k. IsSoundTask s slot k)
own_over true s slot task e = tt
own_over false s slot task e = cc

-- what keeps to its slot, put back
pub sound_kept : (r new : RegionState) (name : List ℕ) (t : TerminalState) (task : TaskState) (reply : TurnReply) (after : TaskContext) → IsSound r → lookup (is_name name) r.terminals ≡ Some t
    → HalfTurnKeeps (context_of r t task) reply after → new ≡ put_back r name after (task_after reply after.task)
    → IsSoundStorage new.shared.storage → AreSoundQueues new.shared.queues → AreSoundResources new.shared.resources → IsSound new
sound_kept r new name t task reply after ok there keeps put sound queues_ok resources_ok = subst IsSound (sym put) (by_over (is_over reply) refl)
  where
    u : TerminalState
    u = record { entry = after.terminal_entry; task = task_after reply after.task }

    ts : List (List ℕ × TerminalState)
    ts = set_value (is_name name) r.terminals u

    whole : RegionState
    whole = put_back r name after (task_after reply after.task)

    s : Storage
    s = after.shared.storage

    sound_after : IsSoundStorage s
    sound_after = subst (λ (n : RegionState). IsSoundStorage n.shared.storage) put sound

    back : IsSoundTerminal s u → AllByRecursion (λ held. IsOwned ts held.area) s → AllByRecursion (λ e. is_live ts e.1.owner ≡ true) after.shared.resources → IsSound whole
    back own owned held =
        sound_back r name t u after.shared ok there keeps.slot keeps.programs sound_after
        (subst (λ (n : RegionState). AreSoundQueues n.shared.queues) put queues_ok)
        (subst (λ (n : RegionState). AreSoundResources n.shared.resources) put resources_ok)
        (others_stay t.entry.slot r.shared.storage s sound_after keeps.areas) own owned held

    others_owned : AllByRecursion (λ held. IsOwned ts held.area) (with_areas_kept (is_of_other_slot t.entry.slot) s)
    others_owned =
        all_areas_same (IsOwned ts) (with_areas_kept (is_of_other_slot t.entry.slot) r.shared.storage) (with_areas_kept (is_of_other_slot t.entry.slot) s) (sym keeps.areas)
        (kept_pass (IsOwned r.terminals) (IsOwned ts) (is_of_other_slot t.entry.slot) r.shared.storage
        (λ area owned other. or_keeps (area.owner.slot == 0) (is_live r.terminals area.owner.slot) (is_live ts area.owner.slot)
        (live_off r name t u area.owner.slot ok there keeps.slot (not_true (area.owner.slot == t.entry.slot) other)) owned) ok.areas)

    others_held : AllByRecursion (λ e. is_live ts e.1.owner ≡ true) (without_owner after.shared.resources t.entry.slot)
    others_held =
        subst (λ (rs : Resources). AllByRecursion (λ e. is_live ts e.1.owner ≡ true) rs) (sym keeps.resources) (released r name t u ok there keeps.slot r.shared.resources ok.resources)

    stays : is_over reply ≡ false → IsSound whole
    stays on =
        let live : is_some u.task ≡ true = live_task (is_over reply) after.task on in
        let is_now : is_live ts t.entry.slot ≡ true = live-set_value 1 r.terminals (is_name name) t u t.entry.slot ok.numbered there keeps.slot ∙ rw (eq-eqb t.entry.slot t.entry.slot refl) live in
        let its : IsSoundTask s u.entry.slot after.task = subst (λ (k : ℕ). IsSoundTask s k after.task) (sym keeps.slot) (keeps.task on) in
        back (own_live (is_over reply) s u.entry.slot after.task on its)
        (from_kept (IsOwned ts) t.entry.slot s (λ area e. rw e (or_second (t.entry.slot == 0) (is_live ts t.entry.slot) is_now)) others_owned)
        (from_others (λ slot. is_live ts slot ≡ true) t.entry.slot after.shared.resources is_now others_held)
      where
        or_second : (a b : Bool) → b ≡ true → a || b ≡ true
        or_second true b e = refl
        or_second false b e = e

    ends : is_over reply ≡ true → IsSound whole
    ends off =
        back (own_over (is_over reply) s u.entry.slot after.task off)
        (subst (λ (left : Storage). AllByRecursion (λ held. IsOwned ts held.area) left) (keeps.nothing_left off) others_owned)
        (subst (λ (rs : Resources). AllByRecursion (λ e. is_live ts e.1.owner ≡ true) rs) (keeps.released off) others_held)

    by_over : (b : Bool) → is_over reply ≡ b → IsSound whole
    by_over true off = ends off
    by_over false on = stays on

pub own_task : (r : RegionState) (name : List ℕ) (t : TerminalState) (task : TaskState) → IsSound r → lookup (is_name name) r.terminals ≡ Some t → t.task ≡ Some task → IsSoundTask r.shared.storage t.entry.slot task
own_task r name t task ok there at = task_of_terminal r.shared.storage t task at (found_meets (IsSoundTerminal r.shared.storage) (is_name name) r.terminals t ok.tasks there)

sound_task_turned : HalfTurnsKeep → (r new : RegionState) (name : List ℕ) (t : TerminalState) (task : TaskState) (reply : TurnReply) → IsSound r → lookup (is_name name) r.terminals ≡ Some t → t.task ≡ Some task
    → TaskTakesTurn r name t task reply new → IsSoundStorage new.shared.storage → AreSoundQueues new.shared.queues → AreSoundResources new.shared.resources → IsSound new
sound_task_turned law r new name t task reply ok there at turned sound queues_ok resources_ok =
    sound_kept r new name t task reply turned.reached ok there
    (law (context_of r t task) turned.reached reply ok.storage ok.programs_sound ok.queues_sound (own_task r name t task ok there at) turned.half_turn)
    turned.after sound queues_ok resources_ok

pub sound_turned : HalfTurnsKeep → (r new : RegionState) (name : List ℕ) (reply : TurnReply) → IsSound r → TakesTurn r name reply new
    → IsSoundStorage new.shared.storage → AreSoundQueues new.shared.queues → AreSoundResources new.shared.resources → IsSound new
unfolding TakesTurn
sound_turned law r new name reply ok turned sound queues_ok resources_ok = by_terminal (lookup (is_name name) r.terminals) refl turned
  where
    by_task : (t : TerminalState) (o : Option TaskState) → lookup (is_name name) r.terminals ≡ Some t → t.task ≡ o → MatchOption o ((reply ≡ turn.Idle) × (new ≡ r)) (λ task. TaskTakesTurn r name t task reply new) → IsSound new
    by_task t None there at idle = subst IsSound (sym idle.1) ok
    by_task t (Some task) there at turned = sound_task_turned law r new name t task reply ok there at turned sound queues_ok resources_ok

    by_terminal : (o : Option TerminalState) → lookup (is_name name) r.terminals ≡ o
        → MatchOption o ((reply ≡ turn.NoSuchTerminal) × (new ≡ r)) (λ t. MatchOption t.task ((reply ≡ turn.Idle) × (new ≡ r)) (λ task. TaskTakesTurn r name t task reply new)) → IsSound new
    by_terminal None there nowhere = subst IsSound (sym nowhere.1) ok
    by_terminal (Some t) there turned = by_task t t.task there refl turned
