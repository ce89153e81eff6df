-- The loads of pointers after a call.
use Rattle.std.specs.Prelude.{Ok, codes, reverse}
use Rattle.std.proofs.Common.{◌≡◌, ℕ, ◌+◌, List, [], ◌∷◌, ◌++◌, map, refl, sym, ◌∙◌, ap, subst, arith}
use Rattle.std.proofs.lemmas.Grind.{reverse_onto}
use Rattle.std.proofs.lemmas.List.{append_assoc}
use Rattle.std.proofs.lemmas.List.Sums.{sum_by-cons}
use Rattle.cx_asm_execution.specs.Stands.{code_length}
use Rattle.cx_code.specs.declared.instruction.Fields.{Fields}
use Rattle.cx_code.specs.declared.instruction.Fields.TheVariants.{Rx}
use Rattle.cx_code.specs.declared.table.Op.TheVariants as op
use Rattle.cx_code.specs.Spelling.{Instruction, instruction}
use Rattle.cx_code.specs.Table.{length_of}
use Rattle.cx_base.specs.Commands.{row_of}
use Rattle.cx_source.specs.declared.source.Item.{Item}
use Rattle.cx_translate.specs.Call.{pointers_of}
use Rattle.cx_translate.specs.Expansion.{load}
use Rattle.cx_translate.specs.Sections.{lines}
use Rattle.cx_asm_operands.specs.Bases.{Bases}
use Rattle.cx_asm_operands.specs.Context.{Context, register_in}
use Rattle.cx_asm_operands.specs.Forms.{fields_in, form_of_op, operands_of, instruction_or_fault}
use Rattle.cx_asm_operands.specs.Checking.{both_or_lower_fault}
use Rattle.cx_asm_operands.specs.Storage.{indexed_in}
use Rattle.cx_asm_operands.specs.declared.addresses.Address.{Address}
use Rattle.cx_code.specs.declared.table.Format.TheVariants as format
use Rattle.cx_asm_operands.specs.declared.forms.Form.TheVariants as form
use Rattle.cx_asm_pass2.specs.Whole.{Whole, whole_of}
use Rattle.cx_source.specs.declared.source.Source.{Source}
use Rattle.cx_asm.specs.Assembly.{AssemblyParts, assembly_of}
use Rattle.cx_base.specs.declared.commands.Command.{Command}
use Rattle.cx_translate.specs.declared.words.Word.{Word}
use Rattle.cx_asm_execution.proofs.Resolved.{AreResolved, bases_in_use}
use Rattle.cx_asm_execution.proofs.CalledLemmas.{AreInstructions, calls_are, is_l}
use Rattle.cx_asm_execution.proofs.Stores.{context_of}
use Rattle.cx_asm_execution.proofs.ArgumentLemmas.{both_ok, made_ok}
use Rattle.cx_asm_execution.proofs.StandingLemmas.{instructions_stand}
use Rattle.cx_asm_execution.proofs.StoreLemmas.{l_indexed, l_named, resolved_so}
use Rattle.cx_asm_execution.proofs.Called.{call_statements}
use Rattle.cx_asm_execution.proofs.Commands.{CallsAreMade}
use Rattle.cx_asm_execution.proofs.Pointers.{IsPointerLoad, LoadsAreResolved, LoadsPointers, pointer_loads}

-- the loads are instructions
loads_are : (line : ℕ) (registers : List (List ℕ)) → AreInstructions (lines line (map load registers))
loads_are line [] = tt
loads_are line (register ∷ registers) = (is_l line [] (register ++ codes ",DFHEITP"), loads_are line registers)

all_are : (items more : List Item) → AreInstructions items → AreInstructions more → AreInstructions (items ++ more)
all_are [] more a b = b
all_are (item ∷ items) more a b = (a.0, all_are items more a.1 b)

-- ---- instructions of lines and of more lines
pub record Parted (whole : Whole) (bases : Bases) (before : List Item) (at : ℕ) (items more : List Item) (code : List Instruction) : Type 0 where
  pub first : List Instruction
  pub rest : List Instruction
  pub is : code ≡ first ++ rest
  pub here : AreResolved whole bases before at items first
  pub after : AreResolved whole bases (reverse items ++ before) (at + code_length first) more rest

pub parted : (whole : Whole) (bases : Bases) (before : List Item) (at : ℕ) (items more : List Item) (code : List Instruction) → AreResolved whole bases before at (items ++ more) code
    → Parted whole bases before at items more code
unfolding AreResolved
parted whole bases before at [] more code r =
    let same : at + 0 ≡ at = omega arith in
    record { first = []; rest = code; is = refl; here = tt; after = subst (λ n. AreResolved whole bases before n more code) (sym same) r }
parted whole bases before at (item ∷ items) more [] r = absurd r
parted whole bases before at (item ∷ items) more (i ∷ code) r =
    let p = parted whole bases (item ∷ before) (at + length_of i.op) items more code r.1 in
    let sum : code_length (i ∷ p.first) ≡ length_of i.op + code_length p.first = sum_by-cons (λ (x : Instruction). length_of x.op) i p.first in
    let place : at + length_of i.op + code_length p.first ≡ at + code_length (i ∷ p.first) = omega (arith, sum) in
    let lines_so : reverse items ++ (item ∷ before) ≡ reverse (item ∷ items) ++ before =
    sym (append_assoc (reverse items) (item ∷ []) before) ∙ sym (ap (λ (l : List Item). l ++ before) (reverse_onto items item [])) in
    record {
      first = i ∷ p.first;
      rest = p.rest;
      is = ap (λ (l : List Instruction). i ∷ l) p.is;
      here = (r.0, p.here);
      after = subst (λ l. AreResolved whole bases l (at + code_length (i ∷ p.first)) more p.rest) lines_so
          (subst (λ n. AreResolved whole bases (reverse items ++ (item ∷ before)) n more p.rest) place p.after);
    }

-- ---- where they are
pub loads_pointers : CallsAreMade → (source : Source) (assembly : AssemblyParts) (line : ℕ) (first rest : List Item) (command : Command) (words : List Word) → assembly_of source ≡ Ok assembly
    → source.items ≡ first ++ (lines line (call_statements command words) ++ lines line (pointer_loads command words)) ++ rest → LoadsPointers source assembly line first command words
loads_pointers calls_made source assembly line first rest command words accepts is =
    let two = lines line (call_statements command words) in
    let loads = lines line (pointer_loads command words) in
    let code = instructions_stand source assembly first (two ++ loads) rest accepts is (all_are two loads (calls_are line command words) (loads_are line (pointers_of (row_of command).options words))) in
    let p = parted (whole_of source) (bases_in_use source first) (reverse first) code.at two loads code.code code.resolved in
    record {
      code = code;
      calls = p.first;
      loads = p.rest;
      split = p.is;
      here = p.here;
      called = calls_made (whole_of source) (bases_in_use source first) line code.at (reverse first) command words p.first p.here;
      loaded = p.after;
    }

-- ---- as the assembler resolves them
load_fields : (c : Context) (register : List ℕ) (fields : Fields) (made : Instruction) → fields_in (form.Format format.Rx) c (register ∷ codes "DFHEITP" ∷ []) ≡ Ok fields → instruction op.L fields ≡ made
    → IsPointerLoad c register made
unfolding fields_in
load_fields c register fields made e is =
    let rx = made_ok (λ (v : ℕ × (ℕ × Address)). Rx v.0 (v.1).0 ((v.1).1).base ((v.1).1).displacement) (both_or_lower_fault (register_in c register) (indexed_in c (codes "DFHEITP"))) fields e in
    let parts = both_ok (register_in c register) (indexed_in c (codes "DFHEITP")) (rx.0).0 (rx.0).1 rx.1 in
    record {
      number = (rx.0).0;
      named = parts.0;
      takes = record {
        index = ((rx.0).1).0;
        address = ((rx.0).1).1;
        operand = parts.1;
        is = sym is ∙ ap (instruction op.L) (sym rx.2);
      };
    }

pub loads_are_resolved : LoadsAreResolved
unfolding instruction_or_fault
loads_are_resolved whole bases line at before register made cut r =
    let c = context_of whole bases line before (load register) in
    let e = resolved_so whole bases line at before (load register) op.L made l_named r in
    let is = made_ok (instruction op.L) (fields_in (form_of_op op.L) c (operands_of (register ++ codes ",DFHEITP"))) made e in
    load_fields c register is.0 made (sym (ap (λ k. fields_in k c (register ∷ codes "DFHEITP" ∷ [])) l_indexed) ∙ sym (ap (fields_in (form_of_op op.L) c) cut) ∙ is.1) is.2
