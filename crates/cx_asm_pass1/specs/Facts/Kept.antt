-- What is known stays known, however many statements follow.
use Rattle.std.specs.Prelude.{slice_get}
use Rattle.std.proofs.Common.{◌≡◌, ℕ, zero, suc, Option, Some, None, List, [], ◌∷◌, ◌++◌, length, refl, ◌∙◌, ap}
use Rattle.std.specs.Option.{option_or}
use Rattle.cx_source.specs.declared.source.Item.{Item}
use Rattle.cx_source.specs.declared.source.Stmt.{Stmt}
use Rattle.cx_asm_expressions.specs.Symbols.{find_in}
use Rattle.cx_asm_expressions.specs.declared.values.Value.{Value}
use Rattle.cx_asm_pools.specs.Pools.{OpenLiterals, PlacedLiterals, cap, closed_pool}
use Rattle.cx_asm_pass1.specs.PassState.{PassState, next_state, after_line, definitions_in, state_after, extent_in, place_in, pools_after, role_in}
use Rattle.cx_asm_pass1.specs.Locations.{all_pools, last_pool_extent}
use Rattle.cx_asm_pass1.specs.declared.place.Place.{Place}
use Rattle.cx_asm_pass1.specs.declared.roles.Role.{Role}
use Rattle.cx_asm_pass1.specs.declared.roles.Role.TheVariants.{Unknown, Instruction, Control, Dummy, Equate, Storage, Pool, Registers, Member, Nothing}

got_front : {X : Type 0} (xs ys : List X) (k : ℕ) (x : X) → slice_get xs k ≡ Some x → slice_get (xs ++ ys) k ≡ Some x
got_front [] ys k x e = cc
got_front (y ∷ xs) ys zero x e = e
got_front (y ∷ xs) ys (suc k) x e = got_front xs ys k x e

got_last : {X : Type 0} (xs : List X) (x : X) → slice_get (xs ++ x ∷ []) (length xs) ≡ Some x
got_last [] x = refl
got_last (y ∷ xs) x = got_last xs x

pools_step : (role : Role) (offset : ℕ) (pool : OpenLiterals) (pools : List PlacedLiterals) (k : ℕ) (it : PlacedLiterals) → slice_get pools k ≡ Some it → slice_get (pools_after role offset pool pools) k ≡ Some it
pools_step Pool offset pool pools k it e = got_front pools (closed_pool (cap offset) pool ∷ []) k it e
pools_step (Instruction size) offset pool pools k it e = e
pools_step Unknown offset pool pools k it e = e
pools_step Control offset pool pools k it e = e
pools_step Dummy offset pool pools k it e = e
pools_step Equate offset pool pools k it e = e
pools_step (Storage is_ds) offset pool pools k it e = e
pools_step Registers offset pool pools k it e = e
pools_step Member offset pool pools k it e = e
pools_step Nothing offset pool pools k it e = e

place_line : (line : ℕ) (stmt : Option Stmt) (state : PassState) (k : ℕ) (it : Place) → slice_get state.places k ≡ Some it → slice_get (after_line line stmt state).places k ≡ Some it
unfolding next_state
place_line line None state k it e = e
place_line line (Some stmt) state k it e = got_front state.places (place_in stmt state ∷ []) k it e

pool_line : (line : ℕ) (stmt : Option Stmt) (state : PassState) (k : ℕ) (it : PlacedLiterals) → slice_get state.pools k ≡ Some it → slice_get (after_line line stmt state).pools k ≡ Some it
unfolding next_state
pool_line line None state k it e = e
pool_line line (Some stmt) state k it e = pools_step (role_in stmt) (extent_in stmt state).offset state.pool state.pools k it e

value_line : (line : ℕ) (stmt : Option Stmt) (state : PassState) (name : List ℕ) (value : Value) → state.symbols name ≡ Some value → (after_line line stmt state).symbols name ≡ Some value
unfolding next_state
value_line line None state name value e = e
value_line line (Some stmt) state name value e = ap (λ o. option_or o (find_in (definitions_in stmt state) name)) e

-- a statement's place
pub place_kept : (more before : List Item) (k : ℕ) (it : Place) → slice_get (state_after before).places k ≡ Some it → slice_get (state_after (more ++ before)).places k ≡ Some it
place_kept [] before k it e = e
place_kept (item ∷ more) before k it e = place_line item.line item.stmt (state_after (more ++ before)) k it (place_kept more before k it e)

-- a closed pool
pub pool_kept : (more before : List Item) (k : ℕ) (it : PlacedLiterals) → slice_get (state_after before).pools k ≡ Some it → slice_get (state_after (more ++ before)).pools k ≡ Some it
pool_kept [] before k it e = e
pool_kept (item ∷ more) before k it e = pool_line item.line item.stmt (state_after (more ++ before)) k it (pool_kept more before k it e)

-- the value of a symbol
pub value_kept : (more before : List Item) (name : List ℕ) (value : Value) → (state_after before).symbols name ≡ Some value → (state_after (more ++ before)).symbols name ≡ Some value
value_kept [] before name value e = e
value_kept (item ∷ more) before name value e = value_line item.line item.stmt (state_after (more ++ before)) name value (value_kept more before name value e)

-- what is known of a statement itself
pub place_listed : (line : ℕ) (stmt : Stmt) (state : PassState) → slice_get (next_state line stmt state).places (length state.places) ≡ Some (place_in stmt state)
unfolding next_state
place_listed line stmt state = got_last state.places (place_in stmt state)

pool_closed : (role : Role) (offset : ℕ) (pool : OpenLiterals) (pools : List PlacedLiterals) → role ≡ Pool → slice_get (pools_after role offset pool pools) (length pools) ≡ Some (closed_pool (cap offset) pool)
pool_closed role offset pool pools e = ap (λ r. slice_get (pools_after r offset pool pools) (length pools)) e ∙ got_last pools (closed_pool (cap offset) pool)

-- LTORG closes the pool
pub pool_listed : (line : ℕ) (stmt : Stmt) (state : PassState) → role_in stmt ≡ Pool
    → slice_get (next_state line stmt state).pools (length state.pools) ≡ Some (closed_pool (cap (extent_in stmt state).offset) state.pool)
unfolding next_state
pool_listed line stmt state e = pool_closed (role_in stmt) (extent_in stmt state).offset state.pool state.pools e

-- among all pools are those that were closed, and the last
pub pool_among : (state : PassState) (k : ℕ) (it : PlacedLiterals) → slice_get state.pools k ≡ Some it → slice_get (all_pools state) k ≡ Some it
pool_among state k it e = got_front state.pools (closed_pool (cap (last_pool_extent state).offset) state.pool ∷ []) k it e

pub last_pool : (state : PassState) → slice_get (all_pools state) (length state.pools) ≡ Some (closed_pool (cap (last_pool_extent state).offset) state.pool)
last_pool state = got_last state.pools (closed_pool (cap (last_pool_extent state).offset) state.pool)
