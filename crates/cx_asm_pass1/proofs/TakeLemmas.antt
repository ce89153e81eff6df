-- What is known once a statement was taken in.
use Rattle.std.proofs.Common.{◌≡◌, ℕ, Option, List, [], ◌∷◌, ◌++◌, length, refl, ◌∙◌, ap}
use Rattle.std.proofs.Math.Path.{fun_ext}
use Rattle.std.specs.Prelude.{Some, pos, unwrap_or}
use Rattle.std.specs.Option.{option_or}
use Rattle.std.specs.Result.{result_ok}
use Rattle.cx_source.specs.declared.source.Stmt.{Stmt}
use Rattle.cx_asm_expressions.specs.Faults.{lower}
use Rattle.cx_asm_expressions.specs.Symbols.{absolute, find_in}
use Rattle.cx_asm_expressions.specs.declared.faults.FaultKind.{FaultKind}
use Rattle.cx_asm_expressions.specs.declared.values.Value.{Value}
use Rattle.cx_asm_pools.specs.Pools.{OpenLiterals, PlacedLiterals}
use Rattle.cx_asm_pass1.specs.Given.{definitions}
use Rattle.cx_asm_pass1.specs.PassState.{PassState, next_state, control_after, statement_fault_in, given_in, extent_in, length_after, literal_fault, first_fault_after, own_fault, parts_in, pool_after, pools_after, role_in, name_in, section_after}
use Rattle.cx_asm_pass1.specs.Parts.Checking.{heading_in}
use Rattle.cx_asm_pass1.specs.declared.faults.Heading.{Heading}
use Rattle.cx_asm_pass1.specs.declared.layout.Extent.{Extent}
use Rattle.cx_asm_pass1.specs.declared.place.Place.{Place}
use Rattle.cx_asm_pass1.specs.declared.place.LineFault.{LineFault}

abbrev pub place_at : Option (List ℕ) → Extent → ℕ → Place
place_at section extent pool = record { section = section; offset = extent.offset; items = extent.items; pool = pool }

same : (a b : Option (List ℕ)) (lengths : List ℕ → ℕ) (symbols : List ℕ → Option Value) (pool : OpenLiterals) (pools : List PlacedLiterals) (places : List Place) (fault : Option LineFault)
    (other : PassState)
    → a ≡ other.section → b ≡ other.control → lengths ≡ other.lengths → symbols ≡ other.symbols → pool ≡ other.pool → pools ≡ other.pools
    → places ≡ other.places → fault ≡ other.fault
    → (let listed : PassState = record { section = a; control = b; lengths = lengths; symbols = symbols; pool = pool; pools = pools; places = places; fault = fault } in listed ≡ other)
same a b lengths symbols pool pools places fault other e1 e2 e3 e4 e5 e6 e7 e8 = rw (e1, e2, e3, e4, e5, e6, e7, e8) refl

pub taken : (line : ℕ) (stmt : Stmt) (state : PassState) (h : Heading) (l : Extent) (v : Option Value) (f : Option FaultKind) (ps : List (List ℕ))
    (user number : ℕ) (literals all : Option FaultKind) (listed : PassState)
    → h ≡ heading_in stmt state → l ≡ extent_in stmt state → v ≡ unwrap_or (result_ok (given_in stmt state)) (Some (absolute (pos 0))) → f ≡ own_fault stmt state → ps ≡ parts_in stmt
    → user ≡ length state.places → number ≡ length state.pools
    → listed.section ≡ section_after h.role h.name h.section h.control
    → listed.control ≡ control_after h.role h.name h.section h.control
    → ((n : List ℕ) → listed.lengths n ≡ length_after h.section l.end state.lengths n)
    → ((n : List ℕ) → listed.symbols n ≡ option_or (state.symbols n) (find_in (definitions h.role h.name h.control state.symbols stmt.operand v) n))
    → listed.pool ≡ pool_after h.role user ps state.pool
    → listed.pools ≡ pools_after h.role l.offset state.pool state.pools
    → listed.places ≡ state.places ++ place_at state.section l number ∷ []
    → literals ≡ literal_fault h.role user ps state.pool
    → all ≡ lower f literals
    → listed.fault ≡ first_fault_after line all state.fault
    → listed ≡ next_state line stmt state
unfolding next_state
taken line stmt state h l v f ps user number literals all listed eh el ev ef eps eu en e1 e2 e3 e4 e5 e6 e7 elit eall e8 =
    same listed.section listed.control listed.lengths listed.symbols listed.pool listed.pools listed.places listed.fault (next_state line stmt state)
    (e1 ∙ ap (λ (x : Heading). section_after x.role x.name x.section x.control) eh)
    (e2 ∙ ap (λ (x : Heading). control_after x.role x.name x.section x.control) eh)
    (fun_ext (λ n. e3 n ∙ ap (λ (x : Heading). length_after x.section l.end state.lengths n) eh ∙ ap (λ (x : Extent). length_after state.section x.end state.lengths n) el))
    (fun_ext (λ n. e4 n ∙ ap (λ (x : Heading). option_or (state.symbols n) (find_in (definitions x.role x.name x.control state.symbols stmt.operand v) n)) eh
    ∙ ap (λ (x : Option Value). option_or (state.symbols n) (find_in (definitions (role_in stmt) (name_in stmt) state.control state.symbols stmt.operand x) n)) ev))
    (e5 ∙ ap (λ (x : Heading). pool_after x.role user ps state.pool) eh ∙ ap (λ (x : List (List ℕ)). pool_after (role_in stmt) user x state.pool) eps
    ∙ ap (λ (x : ℕ). pool_after (role_in stmt) x (parts_in stmt) state.pool) eu)
    (e6 ∙ ap (λ (x : Heading). pools_after x.role l.offset state.pool state.pools) eh ∙ ap (λ (x : Extent). pools_after (role_in stmt) x.offset state.pool state.pools) el)
    (e7 ∙ ap (λ (x : Extent). state.places ++ place_at state.section x number ∷ []) el ∙ ap (λ (x : ℕ). state.places ++ place_at state.section (extent_in stmt state) x ∷ []) en)
    (e8 ∙ ap (λ (x : Option FaultKind). first_fault_after line x state.fault) eall ∙ ap (λ (x : Option FaultKind). first_fault_after line (lower x literals) state.fault) ef
    ∙ ap (λ (x : Option FaultKind). first_fault_after line (lower (own_fault stmt state) x) state.fault)
    (elit ∙ ap (λ (x : Heading). literal_fault x.role user ps state.pool) eh ∙ ap (λ (x : List (List ℕ)). literal_fault (role_in stmt) user x state.pool) eps
    ∙ ap (λ (x : ℕ). literal_fault (role_in stmt) x (parts_in stmt) state.pool) eu))

-- the statement's lowest fault
pub fault_reported : (stmt : Stmt) (state : PassState) (h : Heading) (f : Option FaultKind) (ps : List (List ℕ)) (user : ℕ) (literals all : Option FaultKind)
    → h ≡ heading_in stmt state → f ≡ own_fault stmt state → ps ≡ parts_in stmt → user ≡ length state.places
    → literals ≡ literal_fault h.role user ps state.pool → all ≡ lower f literals → all ≡ statement_fault_in stmt state
fault_reported stmt state h f ps user literals all eh ef eps eu elit eall =
    eall ∙ ap (λ (x : Option FaultKind). lower x literals) ef
    ∙ ap (λ (x : Option FaultKind). lower (own_fault stmt state) x)
    (elit ∙ ap (λ (x : Heading). literal_fault x.role user ps state.pool) eh ∙ ap (λ (x : List (List ℕ)). literal_fault (role_in stmt) user x state.pool) eps
    ∙ ap (λ (x : ℕ). literal_fault (role_in stmt) x (parts_in stmt) state.pool) eu)
