-- A pointer comes back, from the EXEC statement to the load after it.
use Rattle.std.proofs.Common.{◌≡◌, ◌≢◌, ℕ, ◌+◌, ◌<◌, None, Bool, true, false, cond, nat_eq, List, [], ◌∷◌, ◌++◌, length, Some, Ok, refl, sym, subst, ◌∙◌, ap, arith}
use Rattle.std.specs.Prelude.{Result, codes, drop, option_map, slice_get, take, slice_index, slice_set}
use Rattle.std.proofs.lemmas.Bool.{true≢false}
use Rattle.std.proofs.lemmas.Option.{slice_get-map}
use Rattle.cx_base.specs.declared.commands.Command.{Command}
use Rattle.cx_base.specs.declared.conditions.Condition.{Condition}
use Rattle.cx_base.specs.declared.options.CommandOption.{CommandOption}
use Rattle.cx_base.specs.Arguments.{argument_index, arguments_in}
use Rattle.cx_base.specs.Commands.{row_of}
use Rattle.cx_storage.specs.Address.{address_in, address_after}
use Rattle.cx_storage.specs.Storage.{Storage}
use Rattle.cx_storage.specs.Word.{word_at}
use Rattle.cx_load.specs.Fault.{IsFit}
use Rattle.cx_load.specs.Program.{IsLoaded}
use Rattle.cx_load.specs.declared.program.Loaded.{Loaded}
use Rattle.cx_exec.specs.Machine.{Machine, address_part}
use Rattle.cx_exec.specs.Step.{Steps}
use Rattle.cx_exec.specs.declared.machine.Step.TheVariants.{Done}
use Rattle.cx_region_state.specs.declared.call.CallFault.{CallFault}
use Rattle.cx_region_state.specs.declared.outputs.Output.{Output}
use Rattle.cx_region_state.specs.declared.outputs.OutputValue.TheVariants.{Word}
use Rattle.cx_region_state.specs.Call.{Call, place_of}
use Rattle.cx_asm_execution.specs.Arrives.{Arrives}
use Rattle.cx_asm_execution.specs.Stands.{code_length}
use Rattle.cx_asm_execution.specs.Expansion.{Argument, Statement, argument_address, call_made, instructions_made}
use Rattle.cx_source.specs.declared.source.Item.{Item}
use Rattle.cx_source.specs.declared.source.Source.{Source}
use Rattle.cx_source.specs.declared.source.Stmt.{Stmt}
use Rattle.cx_translate.specs.Call.{operands_of as arguments_handed}
use Rattle.std.specs.Option.{option_map_or}
use Rattle.cx_translate.specs.declared.faults.TransFault.TheVariants.{UnknownCommand}
use Rattle.cx_translate.specs.Refusals.{fault_in, refusal_of, first_byte}
use Rattle.cx_translate.specs.Words.{words_of}
use Rattle.cx_asm_operands.specs.Bases.{Bases}
use Rattle.cx_asm_operands.specs.Forms.{operands_of}
use Rattle.cx_asm.specs.Assembly.{AssemblyParts}
use Rattle.cx_asm_execution.specs.Arguments.{HoldsBase, Sections}
use Rattle.cx_asm_execution.specs.Arrival.{AreKept, CommandArrives, PointerComesBack, IsPointer}
use Rattle.cx_asm_execution.specs.MadeLines.{IsMade, Site, bases_of, site_of}
use Rattle.cx_region_commands.specs.Common.{output as output_of}
use Rattle.cx_region_state.specs.State.{TaskContext}
use Rattle.cx_region_state.specs.Verdicts.{handed_over}
use Rattle.cx_region_task.specs.Turn.{machine_of}
use Rattle.cx_region_laws.specs.Laws.Pointers.{HasPutOut, OutputsStay, ProgramsGoOn, is_written_again}
use Rattle.cx_headline.specs.Laws.Pointers.{GetsPointer, IsCommandPerformed, PointersAreGiven}
use Rattle.cx_headline.proofs.OptionLemmas.{option_is_read}

-- what the laws say
abbrev pub ArgumentsAreFound : Type 0
ArgumentsAreFound = (command : Command) (first k : ℕ) (option : CommandOption)
    → slice_get (arguments_in (row_of command).options first) k ≡ Some option → argument_index command first option.name ≡ Some k

pub record Laws : Type 0 where
  pub go_on : ProgramsGoOn
  pub stay : OutputsStay
  pub found : ArgumentsAreFound

-- ---- the option is read where its argument is handed over
option_read : (item : Item) (exec : Stmt) (items : List Item) (made : IsMade item exec items) (options : List CommandOption) (register : List ℕ)
    → (pointer : IsPointer made.command (drop made.named (drop 1 (words_of exec.operand))) options register)
    → slice_get (arguments_in (row_of made.command).options (first_byte made.command (drop made.named (drop 1 (words_of exec.operand)))))
    (length (arguments_handed options (drop made.named (drop 1 (words_of exec.operand))))) ≡ Some pointer.option
unfolding refusal_of
option_read item exec items made options register pointer =
    let cics = take 1 (words_of exec.operand) in
    let named = take made.named (drop 1 (words_of exec.operand)) in
    let words = drop made.named (drop 1 (words_of exec.operand)) in
    let accepted : fault_in item.line made.command cics named words ≡ None = sym (ap (λ f. option_map_or (λ (k : Command × ℕ). fault_in item.line k.0 (take 1 (words_of exec.operand)) (take k.1 (drop 1 (words_of exec.operand))) (drop k.1 (drop 1 (words_of exec.operand)))) f
    (Some (UnknownCommand item.line))) made.found) ∙ made.accepted in
    option_is_read item.line made.command cics named words options pointer.option pointer.after register accepted pointer.is pointer.given

-- ---- the place of an option is that of its argument
place_is : ArgumentsAreFound → (regs : List ℕ) (s : Statement) (c : Command) (first k : ℕ) (option : CommandOption) (a : Argument) → s.command ≡ c → s.first ≡ first
    → slice_get (arguments_in (row_of c).options first) k ≡ Some option → slice_get s.arguments k ≡ Some a
    → place_of (call_made regs s) option.name ≡ Some (argument_address regs a)
unfolding place_of call_made
place_is found regs s c first k option a is byte at given = rw (is, byte, found c first k option at) (slice_get-map (argument_address regs) s.arguments k ∙ ap (option_map (argument_address regs)) given)

-- ---- the address in register 14
after_call : (at c n : ℕ) → address_after (address_after at c) n ≡ address_after at (c + n)
after_call at c n = omega arith

-- ---- the base register
holds_still : (sections : Sections) (bases : Bases) (base : ℕ) (s : Statement) (m now : Machine) (regs : List ℕ) → Arrives m s now → regs ≡ now.regs → base ≢ 1 → base ≢ 14 → base ≢ 15
    → HoldsBase sections m.regs bases base → HoldsBase sections regs bases base
holds_still sections bases base s m now regs arrives is one link entry holds b e = ap address_in (ap (λ (l : List ℕ). address_part l base) is ∙ same (nat_eq base 0) refl) ∙ holds b e
  where
    same : (z : Bool) → nat_eq base 0 ≡ z → cond z 0 (slice_index now.regs base) ≡ cond z 0 (slice_index m.regs base)
    same true e = refl
    same false e = arrives.kept base (λ n. let own : nat_eq base 0 ≡ true = ap (λ k. nat_eq k 0) n in true≢false (sym own ∙ e)) one link entry

module _ (laws : Laws) (translated : Source) (assembly : AssemblyParts) (item : Item) (exec : Stmt) (arrives : CommandArrives translated assembly item exec)
    (options : List CommandOption) (register : List ℕ) (pointer : IsPointer arrives.made.command (site_of translated arrives.made).words options register)
    (cut : operands_of (register ++ codes ",DFHEITP") ≡ register ∷ codes "DFHEITP" ∷ []) where
  abbrev site : Site
  site = site_of translated arrives.made

  abbrev s : Statement
  s = arrives.call.statement

  abbrev at : ℕ
  at = arrives.call.at + code_length (instructions_made s)

  abbrev back : PointerComesBack site assembly.section.image arrives.call.at s options register
  back = arrives.call.returns options register pointer cut

  module _ (storage loaded : Storage) (program : Loaded) (sections : Sections) (m : Machine) (before : TaskContext) (condition : Condition) (after : TaskContext)
      (fit : IsFit assembly.section.image) (stored : IsLoaded storage assembly.section.image program loaded)
      (performed : IsCommandPerformed loaded (address_after program.at arrives.call.at) (address_after program.at at) sections (bases_of site) back.argument.base s m before condition after) where
    abbrev put : HasPutOut condition before after
    put = laws.stay before after condition performed.storage performed.task performed.half_turn

    next_is : after.task.next ≡ address_after program.at at
    next_is =
        (laws.go_on before after condition performed.half_turn).next ∙ performed.arrives.link ∙ ap (λ n. address_after n (code_length (instructions_made s))) performed.next
        ∙ after_call program.at arrives.call.at (code_length (instructions_made s))

    call_is : put.call ≡ call_made m.regs s
    call_is = (let same : ◌≡◌ {A = Result Call CallFault} (Ok put.call) (Ok (call_made m.regs s)) = sym put.reads ∙ performed.arrives.call in cc)

    load_kept : AreKept loaded (machine_of after).storage (machine_of after).next 4
    load_kept = subst (λ n. AreKept loaded (machine_of after).storage n 4) (sym next_is) performed.kept

    held : HoldsBase sections (machine_of after).regs (bases_of site) back.argument.base
    held =
        holds_still sections (bases_of site) back.argument.base s m (machine_of before) after.task.regs performed.arrives (laws.go_on before after condition performed.half_turn).regs
        performed.stays.0 performed.stays.1 performed.stays.2 performed.holds

    loads_it : (front later : List Output) (given : ℕ) → put.outputs ≡ front ++ output_of pointer.option.name (Word given) ∷ later
        → ((k : ℕ) → k < 4 → is_written_again (address_after (argument_address m.regs back.argument) k) before.task.eib put.call (handed_over put.change before) later ≡ false)
        → Steps (machine_of after) Done (record (machine_of after) { regs = slice_set after.task.regs back.number given; next = address_after (address_after program.at at) 4 })
    loads_it front later given split apart =
        let place = argument_address m.regs back.argument in
        let read = option_read item exec translated.items arrives.made options register pointer in
        let there : place_of put.call pointer.option.name ≡ Some place =
        ap (λ (c : Call). place_of c pointer.option.name) call_is
        ∙ place_is laws.found m.regs s site.command (first_byte site.command site.words) (length (arguments_handed options site.words)) pointer.option back.argument
        arrives.call.is.command arrives.call.is.first read back.handed in
        let word : word_at after.shared.storage place ≡ Some given = put.pointers front later pointer.option.name place given split there apart in
        subst (λ n. Steps (machine_of after) Done (record (machine_of after) { regs = slice_set after.task.regs back.number given; next = address_after n 4 })) next_is
        (back.gets storage loaded program sections m.regs (machine_of after) given fit stored performed.holds performed.machine next_is load_kept held word)

    pub gets_pointer : GetsPointer (address_after program.at at) (argument_address m.regs back.argument) back.number pointer.option.name s m before condition after
    gets_pointer = record { next = next_is; put = put; call = call_is; gets = loads_it }

pub pointers_are_given : Laws → PointersAreGiven
pointers_are_given laws translated assembly item exec arrives options register pointer cut = gets_pointer laws translated assembly item exec arrives options register pointer cut
