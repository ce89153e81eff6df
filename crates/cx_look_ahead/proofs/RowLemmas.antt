-- Rows of bytes that differ: one more, and what they decide.
use Rattle.std.proofs.Common.{refl, sym, ap, ◌∙◌, inl, inr, arith}
use Rattle.std.proofs.lemmas.List.{append-nil, append_assoc}
use Rattle.std.proofs.lemmas.Bool.{cases_lt, and_from, and_parts, le-leb, leb-true, lt-ltb, ltb-true, or_cases, or_left, or_right}
use Rattle.std.specs.List.{AllByRecursion, list_any}
use Rattle.std.specs.Prelude.{◌≡◌, ◌≢◌, ℕ, ◌<◌, ◌≤◌, true, List, [], ◌∷◌, ◌++◌, nat_le, nat_lt, Option, None, Some, ◌^◌}
use Rattle.cx_storage.specs.Storage.{Storage, byte_at}
use Rattle.cx_look_ahead.specs.Rows.{AreRows, IsNextRow, row_end, has_byte}
use Rattle.cx_look_ahead.specs.Parts.Next.{MatchNext}
use Rattle.cx_look_ahead.specs.declared.rows.Row.{Row}

-- rows up to an address: those from there on are the others
abbrev pub AreFirst : Storage → Storage → ℕ → List Row → Type 0
AreFirst before after to rows = (others : List Row) → AreRows before after to others → AreRows before after 0 (rows ++ others)

pub one_more : (before after : Storage) (from : ℕ) (rows : List Row) (row : Row) → AreFirst before after from rows → IsNextRow before after from row
    → AreFirst before after (row_end row) (rows ++ row ∷ [])
unfolding AreRows
one_more before after from rows row first next others are = rw (append_assoc rows (row ∷ []) others) (first (row ∷ others) (next, are))

pub all_high : (rows : List Row) (row : Row) → AllByRecursion (λ r. row_end r ≤ 2 ^ 24) rows → row_end row ≤ 2 ^ 24
    → AllByRecursion (λ r. row_end r ≤ 2 ^ 24) (rows ++ row ∷ [])
all_high [] row all high = (high, tt)
all_high (r ∷ rows) row all high = (all.0, all_high rows row all.1 high)

pub none_next : (before after : Storage) (from : ℕ) (o : Option Row) → ((row : Row) → o ≡ Some row → ⊥) → MatchNext before after from o
    → (a : ℕ) → from ≤ a → byte_at before a ≡ byte_at after a
none_next before after from None none next = next
none_next before after from (Some row) none next = absurd (none row refl)

pub all_rows : (before after : Storage) (from : ℕ) (rows : List Row) → AreFirst before after from rows
    → ((a : ℕ) → from ≤ a → byte_at before a ≡ byte_at after a) → AreRows before after 0 rows
unfolding AreRows
all_rows before after from rows first same = rw append-nil at (first [] same)

-- ---- there is one list
row_same : (r q : Row) → r.at ≡ q.at → r.length ≡ q.length → r ≡ q
row_same r q e f = ap (λ at. record { at = at; length = r.length }) e ∙ ap (λ length. record { at = q.at; length = length }) f

no_earlier : (before after : Storage) (from : ℕ) (r q : Row) → IsNextRow before after from r → IsNextRow before after from q → r.at ≤ q.at
no_earlier before after from r q one other = elim (cases_lt q.at r.at) [
  | inl e ↦
      let some = other.some in
      absurd (other.differ q.at (omega arith) (omega (arith, some)) (one.same_up_to q.at other.low e))
  | inr e ↦ e
]

no_shorter : (before after : Storage) (from : ℕ) (r q : Row) → IsNextRow before after from r → IsNextRow before after from q → r.at ≡ q.at → row_end q ≤ row_end r
no_shorter before after from r q one other e = elim (cases_lt (row_end r) (row_end q)) [
  | inl h ↦
      let some = one.some in
      absurd (other.differ (row_end r) (omega (arith, e, some)) h one.ends)
  | inr h ↦ h
]

next_decides : (before after : Storage) (from : ℕ) (r q : Row) → IsNextRow before after from r → IsNextRow before after from q → r ≡ q
next_decides before after from r q one other =
    let low = no_earlier before after from r q one other in
    let high = no_earlier before after from q r other one in
    let at : r.at ≡ q.at = omega (arith, low, high) in
    let long = no_shorter before after from r q one other at in
    let short = no_shorter before after from q r other one (sym at) in
    row_same r q at (omega (arith, at, long, short))

none_differ : (before after : Storage) (from : ℕ) (row : Row) → ((a : ℕ) → from ≤ a → byte_at before a ≡ byte_at after a) → IsNextRow before after from row → ⊥
none_differ before after from row same next =
    let some = next.some in
    next.differ row.at (omega arith) (omega (arith, some)) (same row.at next.low)

pub rows_decide : (before after : Storage) (from : ℕ) (one other : List Row) → AreRows before after from one → AreRows before after from other → one ≡ other
unfolding AreRows
rows_decide before after from [] [] p q = refl
rows_decide before after from [] (r ∷ rs) p q = absurd (none_differ before after from r p q.0)
rows_decide before after from (r ∷ rs) [] p q = absurd (none_differ before after from r q p.0)
rows_decide before after from (r ∷ rs) (s ∷ ss) p q =
    let first : r ≡ s = next_decides before after from r s p.0 q.0 in
    let others : rs ≡ ss = rows_decide before after (row_end r) rs ss p.1 (rw (← first) at q.1) in
    cc

-- ---- a byte is in a row exactly where it differs
has_byte_from : (a : ℕ) (row : Row) → row.at ≤ a → a < row_end row → has_byte a row ≡ true
has_byte_from a row low high = and_from _ _ (le-leb row.at a low) (lt-ltb a (row_end row) high)

pub in_row_differs : (before after : Storage) (from : ℕ) (rows : List Row) (a : ℕ) → AreRows before after from rows → list_any (has_byte a) rows ≡ true
    → byte_at before a ≢ byte_at after a
unfolding AreRows
in_row_differs before after from [] a are has = absurd (cc)
in_row_differs before after from (row ∷ rows) a are has = elim (or_cases (has_byte a row) (list_any (has_byte a) rows) has) [
  | inl h ↦
      let parts = and_parts (nat_le row.at a) (nat_lt a (row_end row)) h in
      are.0.differ a (leb-true row.at a parts.0) (ltb-true a (row_end row) parts.1)
  | inr h ↦ in_row_differs before after (row_end row) rows a are.1 h
]

pub differs_in_row : (before after : Storage) (from : ℕ) (rows : List Row) (a : ℕ) → AreRows before after from rows → from ≤ a
    → byte_at before a ≢ byte_at after a → list_any (has_byte a) rows ≡ true
unfolding AreRows
differs_in_row before after from [] a are low differs = absurd (differs (are a low))
differs_in_row before after from (row ∷ rows) a are low differs = elim (cases_lt a row.at) [
  | inl e ↦ absurd (differs (are.0.same_up_to a low e))
  | inr e ↦ elim (cases_lt a (row_end row)) [
    | inl h ↦ or_left (has_byte a row) (list_any (has_byte a) rows) (has_byte_from a row e h)
    | inr h ↦ or_right (has_byte a row) (list_any (has_byte a) rows) (differs_in_row before after (row_end row) rows a are.1 h differs)
  ]
]
