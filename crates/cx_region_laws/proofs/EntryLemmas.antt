-- How a level begins: by LINK or XCTL alone, as their rows say; and what is in its program's DFHEICAP.
use Rattle.std.proofs.Common.{◌≡◌, ℕ, ◌<◌, Bool, true, false, Option, Some, None, List, [], length, refl, sym, arith, inl, inr}
use Rattle.std.specs.Prelude.{◌⊎◌, nat_lt, MatchOption}
use Rattle.std.specs.List.{list_any}
use Rattle.std.specs.Option.{option_map, option_map_or}
use Rattle.std.proofs.lemmas.Bool.{cases_lt, ne_eqb, true≢false}
use Rattle.std.proofs.lemmas.Option.{same_Some}
use Rattle.cx_base.specs.declared.abends.Abend.TheVariants as abend
use Rattle.cx_base.specs.declared.commands.Command.{Command}
use Rattle.cx_base.specs.declared.commands.Command.TheVariants as command
use Rattle.cx_base.specs.declared.conditions.Condition.TheVariants.{Lengerr, Pgmiderr}
use Rattle.cx_base.specs.declared.options.OptionName.TheVariants as option
use Rattle.cx_storage.specs.Storage.{Storage, span}
use Rattle.cx_storage.specs.Facts.Spans.{span_length}
use Rattle.cx_region_state.specs.declared.inputs.StorageSpan.{StorageSpan}
use Rattle.cx_region_state.specs.Call.{Call, place_of}
use Rattle.cx_region_state.specs.Inputs.{is_length_negative, length_option, piece_of}
use Rattle.cx_region_state.specs.State.{TaskContext}
use Rattle.cx_region_state.specs.declared.verdict.Copying.{Copying}
use Rattle.cx_region_state.specs.declared.verdict.TaskChange.{TaskChange}
use Rattle.cx_region_state.specs.declared.verdict.TaskChange.TheVariants.{Enters, Replaces}
use Rattle.cx_region_state.specs.declared.verdict.Verdict.{Verdict}
use Rattle.cx_region_state.specs.declared.verdict.Verdict.TheVariants.{Refuses}
use Rattle.cx_region_commands.specs.declared.common.Called.{Called}
use Rattle.cx_region_commands.specs.Common.{commarea_of, does, named_program, new_level, condition_alone}
use Rattle.cx_region_commands.specs.CommandVerdicts.{HasVerdict, JudgedBy}
use Rattle.cx_region_commands.specs.Link.{LinkRow, Links, enters}
use Rattle.cx_region_commands.specs.Xctl.{Copies, Transfers, XctlRow, XctlTo, copying_to, replaces}
use Rattle.cx_region_commands.specs.Facts.FitsParts.{by_option, by_test}
use Rattle.cx_region_laws.specs.Laws.Commareas.{passed_by}
use Rattle.cx_region_laws.proofs.RowLemmas.{EntersLevel, Kind, ReplacesLevel, has_kind, kind_of, kinds_of, never, passes}

-- ---- the changes with which a level begins, and their kinds
unfoldable pub begins : TaskChange → Bool
begins (Enters level) = true
begins (Replaces copying level) = true
begins _ = false

abbrev is_beginning : Kind → Bool
is_beginning EntersLevel = true
is_beginning ReplacesLevel = true
is_beginning _ = false

begins_kind : (change : TaskChange) → begins change ≡ true → is_beginning (kind_of change) ≡ true
unfolding begins
begins_kind (Enters level) e = refl
begins_kind (Replaces copying level) e = refl
begins_kind _ e = cc

-- LINK's verdict, and XCTL's, where a level begins
pub record IsLink (s : Storage) (call : Call) (v : Verdict) : Type 0 where
  pub called : Called
  pub stg : ℕ
  pub is : v ≡ does (Enters (new_level called (commarea_of s call) stg))

-- the COMMAREA where it is copied to
abbrev pub copy_of : Option Copying → Option StorageSpan
copy_of copying = option_map (λ (copying : Copying). record { place = copying.to; len = copying.from.len }) copying

pub record IsXctl (s : Storage) (call : Call) (v : Verdict) : Type 0 where
  pub called : Called
  pub copying : Option Copying
  pub stg : ℕ
  pub is : v ≡ does (Replaces copying (new_level called (copy_of copying) stg))
  pub from : commarea_of s call ≡ option_map (λ (copying : Copying). copying.from) copying

link_begins : (call : Call) (r : TaskContext) (v : Verdict) → LinkRow r.shared.storage r.shared.programs r.task.levels call v → passes begins v ≡ true → IsLink r.shared.storage call v
unfolding LinkRow Links passes begins
link_begins call r v row e =
    by_test (is_length_negative r.shared.storage call) row
    (λ _ is. never begins v (condition_alone Lengerr) is refl e)
    (λ _ named. by_option (named_program r.shared.storage call r.shared.programs) named
    (λ is. never begins v (condition_alone Pgmiderr) is refl e)
    (λ called _ links. by_test (nat_lt (length r.task.levels.callers) 15) links
    (λ _ at. placed called at.place at.is)
    (λ _ is. never begins v (Refuses abend.Xlvl) is refl e)))
  where
    placed : (called : Called) (place : Option ℕ) → v ≡ enters called (commarea_of r.shared.storage call) place → IsLink r.shared.storage call v
    placed called None is = never begins v _ is refl e
    placed called (Some stg) is = record { called = called; stg = stg; is = is }

xctl_begins : (call : Call) (r : TaskContext) (v : Verdict) → XctlRow r.shared.storage r.terminal_entry.slot r.shared.programs call v → passes begins v ≡ true → IsXctl r.shared.storage call v
unfolding XctlRow XctlTo passes begins
xctl_begins call r v row e =
    by_test (is_length_negative r.shared.storage call) row
    (λ _ is. never begins v (condition_alone Lengerr) is refl e)
    (λ _ named. by_option (named_program r.shared.storage call r.shared.programs) named
    (λ is. never begins v (condition_alone Pgmiderr) is refl e)
    (λ called _ goes. by_commarea called (commarea_of r.shared.storage call) refl goes))
  where
    placed : (called : Called) (copying : Option Copying) (place : Option ℕ) → commarea_of r.shared.storage call ≡ option_map (λ (copying : Copying). copying.from) copying
        → v ≡ replaces called copying place → IsXctl r.shared.storage call v
    placed called copying None from is = never begins v _ is refl e
    placed called copying (Some stg) from is = record { called = called; copying = copying; stg = stg; is = is; from = from }

    copied : (called : Called) (piece : StorageSpan) (place : Option ℕ) → commarea_of r.shared.storage call ≡ Some piece
        → MatchOption place (v ≡ Refuses abend.Xstg) (λ to. Transfers r.shared.storage r.terminal_entry.slot called (Some (copying_to piece to)) v) → IsXctl r.shared.storage call v
    copied called piece None from is = never begins v (Refuses abend.Xstg) is refl e
    copied called piece (Some to) from at = placed called (Some (copying_to piece to)) at.place from at.is

    by_commarea : (called : Called) (o : Option StorageSpan) → commarea_of r.shared.storage call ≡ o
        → MatchOption o (Transfers r.shared.storage r.terminal_entry.slot called None v) (λ piece. Copies r.shared.storage r.terminal_entry.slot called piece v) → IsXctl r.shared.storage call v
    by_commarea called None from at = placed called None at.place from at.is
    by_commarea called (Some piece) from copies = copied called piece copies.place from copies.goes

-- ---- by which commands
pub judged_begins : (call : Call) (r : TaskContext) (v : Verdict) → HasVerdict call r v → passes begins v ≡ true
    → ((call.command ≡ command.Link) × IsLink r.shared.storage call v) ⊎ ((call.command ≡ command.Xctl) × IsXctl r.shared.storage call v)
unfolding HasVerdict
judged_begins call r v judged e = go call.command judged (has_kind begins is_beginning begins_kind call r v judged e)
  where
    Either : Command → Type 0
    Either c = ((c ≡ command.Link) × IsLink r.shared.storage call v) ⊎ ((c ≡ command.Xctl) × IsXctl r.shared.storage call v)

    go : (c : Command) → JudgedBy c call r v → list_any is_beginning (kinds_of c) ≡ true → Either c
    go command.Link row begun = inl (refl, link_begins call r v row e)
    go command.Xctl row begun = inr (refl, xctl_begins call r v row e)
    go _ is begun = absurd (true≢false (sym begun))

-- ---- the COMMAREA that is passed
-- no bytes are passed, or these at a place
pub record IsPassed (s : Storage) (call : Call) (bytes : List ℕ) (piece : StorageSpan) : Type 0 where
  pub place : place_of call option.Commarea ≡ Some piece.place
  pub len : piece.len ≡ length_option s call
  pub commarea : commarea_of s call ≡ Some piece
  pub there : span s piece.place piece.len ≡ Some bytes
  pub long : length bytes ≡ piece.len
  pub some : 0 < piece.len

pub passed_cases : (s : Storage) (call : Call) (bytes : List ℕ) → passed_by s call ≡ Some bytes
    → ((bytes ≡ []) × (commarea_of s call ≡ None)) ⊎ ((piece : StorageSpan) × IsPassed s call bytes piece)
unfolding commarea_of piece_of span
passed_cases s call bytes passed = by_place (place_of call option.Commarea) refl passed
  where
    Cases : Type 0
    Cases = ((bytes ≡ []) × (commarea_of s call ≡ None)) ⊎ ((piece : StorageSpan) × IsPassed s call bytes piece)

    by_place : (o : Option ℕ) → place_of call option.Commarea ≡ o → option_map_or (λ place. span s place (length_option s call)) o (Some []) ≡ Some bytes → Cases
    by_place None e passed = inl (let is : [] ≡ bytes = cc in sym is, rw e refl)
    by_place (Some place) e passed = elim (cases_lt 0 (length_option s call)) [
      | inl some ↦
          let test = ne_eqb (length_option s call) 0 (λ is. absurd (omega (arith, is, some))) in
          inr (
            record { place = place; len = length_option s call },
            record {
              place = e;
              len = refl;
              commarea = rw (e, test) refl;
              there = passed;
              long = span_length s place (length_option s call) bytes passed;
              some = some;
            },
          )
      | inr none ↦
          let zero_long : length_option s call ≡ 0 = omega (arith, none) in
          inl (let is : Some [] ≡ Some bytes = rw zero_long at passed in (same_Some bytes [] (sym is), rw (e, zero_long) refl))
    ]
