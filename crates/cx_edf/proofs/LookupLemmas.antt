-- The session of a terminal after a change of one.
use Rattle.std.proofs.Common.{◌≡◌, ℕ, true, false, not, List, Option, Some, None, ap, subst}
use Rattle.std.proofs.lemmas.Map.Entries.{lookup-filter-keys}
use Rattle.cx_ebcdic.specs.Facts.Names.{is_name-decides, is_name-laws}
use Rattle.cx_base.specs.Facts.Lookups.{lookup-insert_entry-same, lookup-insert_entry-other}
use Rattle.cx_ebcdic.specs.Names.{is_name}
use Rattle.cx_edf.specs.Sessions.{SessionState, Sessions, session_in, with_session}

-- the name itself
pub at_same : (sessions : Sessions) (name : List ℕ) (to : Option SessionState) → session_in (with_session sessions name to) name ≡ to
at_same sessions name None = lookup-filter-keys (is_name name) (λ k. not (is_name name k)) false (λ k same. ap not same) sessions
at_same sessions name (Some session) = lookup-insert_entry-same is_name is_name-laws sessions name session

-- a name that isn't one name isn't under it
apart : (name q k : List ℕ) → is_name name q ≡ false → is_name q k ≡ true → not (is_name name k) ≡ true
apart name q k differ same = let e : q ≡ k = (is_name-decides q k).0 same in subst (λ x. not (is_name name x) ≡ true) e (ap not differ)

-- every other name
pub at_other : (sessions : Sessions) (name q : List ℕ) (to : Option SessionState) → is_name name q ≡ false
    → session_in (with_session sessions name to) q ≡ session_in sessions q
at_other sessions name q None differ = lookup-filter-keys (is_name q) (λ k. not (is_name name k)) true (λ k same. apart name q k differ same) sessions
at_other sessions name q (Some session) differ = lookup-insert_entry-other is_name is_name-laws sessions name q session differ

-- names that are the same
pub same_name : (name q : List ℕ) → is_name name q ≡ true → name ≡ q
same_name name q same = (is_name-decides name q).0 same
