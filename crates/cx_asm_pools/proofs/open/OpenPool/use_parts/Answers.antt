use Rattle.std.proofs.Common.{◌≡◌, false, true, ◌∙◌, ap, subst, sym, ℕ, ◌<◌, List, [], length, get_or, drop, map, suc, add-one, drop-cons, arith, Bor}
use Rattle.std.specs.Prelude.{OnErr, Result, Ok, Err}
use Rattle.std.specs.List.{take-map}
use Rattle.cx_asm_pools.specs.Pools.{with_part, with_parts}
use Rattle.cx_asm_expressions.specs.Facts.Faults.{lower_in_turn}
use Rattle.cx_asm_pools.proofs.PartLemmas.{first_kept, one_more}
use Rattle.cx_asm_pools.proofs.open.OpenPool.use_parts.Goals as goal

pub loop-part-preserved : goal.loop-part-preserved
loop-part-preserved c =
    let within : c.loop-part.part-index < length c.args.parts.now = omega arith in
    let none : Bor (List ℕ) = record { ref_ptr = (0, 0); now = [] } in
    let one = drop-cons {A = Bor (List ℕ)} c.args.parts.now c.loop-part.part-index none within in
    record {
      used =
          rw add-one
          (c.in_ok-use_part.ensures.used ∙ ap (λ p. with_part c.args.user p (get_or c.args.parts.now c.loop-part.part-index none).now) c.loop-part.invariant.used
          ∙ sym (one_more c.args.user c.args.self.now c.args.parts.now c.loop-part.part-index none within));
      fault = rw (add-one, c.lower-fault.ensures, c.literal_constant_fault.ensures, lower_in_turn) (rw one at c.loop-part.invariant.fault);
      known = λ old.
          let was = c.loop-part.invariant.known old in
          let part = (get_or c.args.parts.now c.loop-part.part-index none).now in
          let rest = map (λ (it : Bor (List ℕ)). it.now) (drop (suc c.loop-part.part-index) c.args.parts.now) in
          let all = rw one at was.1 in
          let first = first_kept c.args.user c.args.self.now part rest all in (
            c.in_ok-use_part.ensures.used ∙ ap (λ p. with_part c.args.user p part) was.0 ∙ first,
            rw add-one (subst (λ p. with_parts c.args.user p rest ≡ c.args.self.now) first all),
          );
    }

on_any : {A E P : Type 0} (r : Result A E) → P → OnErr r P
on_any (Ok x) h = tt
on_any (Err e) h = h

pub returns-in_err-use_part-clause-err : goal.returns-in_err-use_part-clause-err
returns-in_err-use_part-clause-err c =
    on_any c.from_residual.result (record {
      count = c.loop-part.part-index;
      used =
          c.in_err-use_part.ensures.err ∙ c.loop-part.invariant.used
          ∙ ap (with_parts c.args.user c.args.self.now) (sym (take-map {X = Bor (List ℕ)} {Y = List ℕ} (λ part. part.now) c.loop-part.part-index c.args.parts.now));
    })

pub returns-in_err-use_part-clause-known : goal.returns-in_err-use_part-clause-known
returns-in_err-use_part-clause-known c =
    λ old.
    let within : c.loop-part.part-index < length c.args.parts.now = omega arith in
    let none : Bor (List ℕ) = record { ref_ptr = (0, 0); now = [] } in
    let one = drop-cons {A = Bor (List ℕ)} c.args.parts.now c.loop-part.part-index none within in
    let was = c.loop-part.invariant.known old in
    let part = (get_or c.args.parts.now c.loop-part.part-index none).now in
    let rest = map (λ (it : Bor (List ℕ)). it.now) (drop (suc c.loop-part.part-index) c.args.parts.now) in
    let first = first_kept c.args.user c.args.self.now part rest (rw one at was.1) in
    let no : false ≡ true = c.in_err-use_part.ensures.known (ap (λ p. with_part c.args.user p part) was.0 ∙ first ∙ sym was.0) in
    cc
