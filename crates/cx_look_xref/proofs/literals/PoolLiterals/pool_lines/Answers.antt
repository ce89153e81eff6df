use Rattle.std.proofs.Common.{List, ℕ, ◌+◌, ◌++◌, [], drop, ap, ◌∙◌, append_assoc}
use Rattle.std.specs.Prelude.{slice_get}
use Rattle.std.specs.List.{flat_map}
use Rattle.std.specs.Option.{option_map_or}
use Rattle.cx_asm_pools.specs.declared.closed.Literal.{Literal}
use Rattle.cx_look_lines.specs.Words.{Lines}
use Rattle.cx_look_xref.proofs.PoolLemmas.{one_more}
use Rattle.cx_look_xref.specs.Parts.Uses.{lines_of_literal}
use Rattle.cx_look_xref.specs.Texts.{literal_line}
use Rattle.cx_look_xref.proofs.literals.PoolLiterals.pool_lines.Goals as goal

pub loop-index-preserved : goal.loop-index-preserved
loop-index-preserved c =
    let f : List ℕ × Literal → Lines = literal_line c.args.self.now.section.now (lines_of_literal c.args.self.now.used.now.entries) c.args.self.now.number in
    let i : ℕ = c.loop-index.index in
    ap (λ t. t ++ flat_map f (drop (i + 1) c.args.pool.now)) c.in_ok-literal_at.ensures
    ∙ append_assoc c.loop-index.report (option_map_or f (slice_get c.args.pool.now i) []) (flat_map f (drop (i + 1) c.args.pool.now))
    ∙ ap (λ t. c.loop-index.report ++ t) (one_more f c.args.pool.now i) ∙ c.loop-index.invariant
