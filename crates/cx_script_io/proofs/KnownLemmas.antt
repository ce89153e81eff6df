-- Calls and known bytes.
use Rattle.std.proofs.Common.{◌≡◌, ℕ, Bool, List, [], ◌∷◌, None, Some, Option, refl, sym, ap, ◌∙◌, subst}
use Rattle.std.specs.List.{FoldsTo}
use Rattle.std.specs.Option.{option_or}
use Rattle.std.specs.Io.KnownBytes.{Appends, Consumes, IsAtEnd, Keeps}
use Rattle.std.proofs.KnownBytes.{Appends-nil, Appends-trans, Consumes-nil, Consumes-trans}
use Rattle.cx_script_io.specs.Calls.{DeviceCall, Reading, Writing, did, given, last_read, taken}
use Rattle.cx_script_io.specs.Devices.{ReadsKnown, WritesKnown}
use Rattle.cx_script_io.specs.Laws.Known.{CallsMoveKnown}

kept_consumes : (a b : Option (List ℕ)) → Keeps a b → Consumes a b []
kept_consumes None b k = tt
kept_consumes (Some x) None k = absurd k
kept_consumes (Some x) (Some y) k = sym k

kept_appends : (a b : Option (List ℕ)) → Keeps a b → Appends a b []
kept_appends None b k = tt
kept_appends (Some x) None k = absurd k
kept_appends (Some x) (Some y) k = k ∙ Appends-nil (Some x)

module _ {D : Type 0} (reads writes : D → Option (List ℕ) → D → Type 0) (left written : D → Option (List ℕ)) (has_read_failed has_write_failed : D → Bool)
    (read_known : (a b : D) (m : Option (List ℕ)) → reads a m b → ReadsKnown (left a) m (left b))
    (write_known : (a b : D) (m : Option (List ℕ)) → writes a m b → WritesKnown (written a) m (written b))
    (read_keeps : (a b : D) (m : Option (List ℕ)) → reads a m b → (written b ≡ written a) × (has_write_failed b ≡ has_write_failed a))
    (write_keeps : (a b : D) (m : Option (List ℕ)) → writes a m b → (left b ≡ left a) × (has_read_failed b ≡ has_read_failed a)) where
  was_read : (a c : D) (calls : List DeviceCall) → FoldsTo (did reads writes) a calls c → Consumes (left a) (left c) (given calls)
  was_read a c [] f = subst (λ s. Consumes (left a) (left s) []) f (Consumes-nil (left a))
  was_read a c (Reading (Some bytes) ∷ calls) f =
      Consumes-trans (left a) (left f.0) (left c) bytes (given calls) (read_known a f.0 (Some bytes) f.1).0 (was_read f.0 c calls f.2)
  was_read a c (Reading None ∷ calls) f =
      Consumes-trans (left a) (left f.0) (left c) [] (given calls) (kept_consumes (left a) (left f.0) (read_known a f.0 None f.1)) (was_read f.0 c calls f.2)
  was_read a c (Writing m ∷ calls) f = subst (λ o. Consumes o (left c) (given calls)) (write_keeps a f.0 m f.1).0 (was_read f.0 c calls f.2)

  was_written : (a c : D) (calls : List DeviceCall) → FoldsTo (did reads writes) a calls c → Appends (written a) (written c) (taken calls)
  was_written a c [] f = subst (λ s. Appends (written a) (written s) []) f (Appends-nil (written a))
  was_written a c (Writing (Some bytes) ∷ calls) f =
      Appends-trans (written a) (written f.0) (written c) bytes (taken calls) (write_known a f.0 (Some bytes) f.1) (was_written f.0 c calls f.2)
  was_written a c (Writing None ∷ calls) f =
      Appends-trans (written a) (written f.0) (written c) [] (taken calls) (kept_appends (written a) (written f.0) (write_known a f.0 None f.1)) (was_written f.0 c calls f.2)
  was_written a c (Reading m ∷ calls) f = subst (λ o. Appends o (written c) (taken calls)) (read_keeps a f.0 m f.1).0 (was_written f.0 c calls f.2)

  unread : (o : Option (Option (List ℕ))) (m : Option (List ℕ)) → option_or o (Some m) ≡ None → ⊥
  unread None m e = cc
  unread (Some x) m e = cc

  was_left : (a c : D) (calls : List DeviceCall) → FoldsTo (did reads writes) a calls c → last_read calls ≡ None → left c ≡ left a
  was_left a c [] f e = ap left (sym f)
  was_left a c (Reading m ∷ calls) f e = absurd (unread (last_read calls) m e)
  was_left a c (Writing m ∷ calls) f e = was_left f.0 c calls f.2 e ∙ (write_keeps a f.0 m f.1).0

  ends_first : (a b c : D) (m : Option (List ℕ)) (calls : List DeviceCall) (o : Option (Option (List ℕ))) → last_read calls ≡ o → reads a m b → FoldsTo (did reads writes) b calls c
      → (last_read calls ≡ Some (Some []) → IsAtEnd (left c)) → option_or o (Some m) ≡ Some (Some []) → IsAtEnd (left c)
  ends_first a b c m calls (Some x) l h f last e = last (l ∙ e)
  ends_first a b c None calls None l h f last e = cc
  ends_first a b c (Some bytes) calls None l h f last e =
      let none : bytes ≡ [] = cc in
      subst IsAtEnd (sym (was_left b c calls f l)) ((read_known a b (Some bytes) h).1 none)

  was_ended : (a c : D) (calls : List DeviceCall) → FoldsTo (did reads writes) a calls c → last_read calls ≡ Some (Some []) → IsAtEnd (left c)
  was_ended a c [] f e = cc
  was_ended a c (Reading m ∷ calls) f e = ends_first a f.0 c m calls (last_read calls) refl f.1 f.2 (was_ended f.0 c calls f.2) e
  was_ended a c (Writing m ∷ calls) f e = was_ended f.0 c calls f.2 e

  pub calls_move_known : CallsMoveKnown reads writes left written
  calls_move_known a c calls f = record { read = was_read a c calls f; ended = was_ended a c calls f; written = was_written a c calls f }
