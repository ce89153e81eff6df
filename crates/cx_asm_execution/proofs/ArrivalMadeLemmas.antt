-- How many instructions are made, and how many bytes they have.
use Rattle.std.proofs.Common.{◌≡◌, ◌+◌, ◌*◌, List, [], ◌∷◌, ◌++◌, length, refl, arith}
use Rattle.std.proofs.lemmas.List.Sums.{sum_by-cons}
use Rattle.cx_code.specs.declared.table.Op.TheVariants as op
use Rattle.cx_code.specs.declared.instruction.Fields.TheVariants.{Rx}
use Rattle.cx_code.specs.Table.{length_of, operation_row}
use Rattle.cx_code.specs.Spelling.{Instruction, instruction}
use Rattle.cx_asm_execution.specs.Expansion.{Argument, Statement, instructions_made, store_instructions, branch, words_of_list}
use Rattle.cx_asm_execution.specs.Stands.{code_length}

longer : (i : Instruction) (rest : List Instruction) → length_of i.op ≡ 4 → code_length (i ∷ rest) ≡ 4 + code_length rest
longer i rest size = let more = sum_by-cons (λ (x : Instruction). length_of x.op) i rest in omega (arith, more, size)

stores_count : (arguments : List Argument) (rest : List Instruction) → length (store_instructions arguments ++ rest) ≡ 2 * length arguments + length rest
stores_count [] rest = omega arith
stores_count (a ∷ arguments) rest = let more = stores_count arguments rest in omega (arith, more)

stores_length : (arguments : List Argument) (rest : List Instruction) → code_length (store_instructions arguments ++ rest) ≡ 8 * length arguments + code_length rest
unfolding operation_row
stores_length [] rest = omega arith
stores_length (a ∷ arguments) rest =
    let more = stores_length arguments rest in
    let store = longer (instruction op.St (Rx 0 0 a.word.base a.word.displacement)) (store_instructions arguments ++ rest) refl in
    let load = longer (instruction op.La (Rx 0 a.index a.base a.displacement)) (instruction op.St (Rx 0 0 a.word.base a.word.displacement) ∷ (store_instructions arguments ++ rest)) refl in
    omega (arith, more, store, load)

pub counted : (s : Statement) → length (instructions_made s) ≡ 2 * length (words_of_list s) + 4
unfolding instructions_made
counted s = let all = stores_count (words_of_list s) (branch s) in omega (arith, all)

pub measured : (s : Statement) → code_length (instructions_made s) ≡ 8 * length (words_of_list s) + 14
unfolding instructions_made operation_row
measured s =
    let all = stores_length (words_of_list s) (branch s) in
    let last : code_length (branch s) ≡ 14 = refl in
    omega (arith, all, last)
