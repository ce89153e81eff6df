use Rattle.std.proofs.Common.{◌≡◌, None, rules}
use Rattle.std.specs.Map.{lookup}
use Rattle.std.specs.Str.{bytes_eq}
use Rattle.cx_asm_pools.specs.Pools.{by_text}
use Rattle.cx_asm_pools.proofs.SizeLemmas.{one_open}
use Rattle.cx_asm_pools.proofs.open.OpenPool.put.Goals as goal

pub invariant_of-self-then-is_none : goal.invariant_of-self-then-is_none
invariant_of-self-then-is_none c =
    let none : lookup (bytes_eq c.args.text.now) (by_text c.self.inside.literals.entries) ≡ None = search rules in
    rw (c.capped-self-inside.ensures.capped, c.capped.ensures.capped)
    (one_open c.self.inside.size (by_text c.self.inside.literals.entries) (by_text c.push_used.new.table.entries) c.args.text.now c.args.used c.self.invariant none
    c.in_ok-push_used.ensures.put)
