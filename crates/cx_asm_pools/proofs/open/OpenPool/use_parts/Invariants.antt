use Rattle.std.proofs.Common.{◌≡◌, drop, take, map}
use Rattle.cx_asm_expressions.specs.Faults.{lower, lowest}
use Rattle.cx_asm_pools.specs.Pools.{literal_constant_fault, with_parts}
use Rattle.cx_asm_pools.proofs.open.OpenPool.use_parts.Given as goal

abbrev pub invariant-loop-part : goal.invariant-loop-part
invariant-loop-part l =
    record {
      used : l.self ≡ with_parts l.user l.initial.self (map (λ part. part.now) (take l.part-index l.parts));
      fault : lower l.fault (lowest (map literal_constant_fault (map (λ part. part.now) (drop l.part-index l.parts)))) ≡ lowest (map literal_constant_fault (map (λ part. part.now) l.parts));
      known :
          with_parts l.user l.initial.self (map (λ part. part.now) l.parts) ≡ l.initial.self
          → (l.self ≡ l.initial.self) × (with_parts l.user l.initial.self (map (λ part. part.now) (drop l.part-index l.parts)) ≡ l.initial.self);
    }
