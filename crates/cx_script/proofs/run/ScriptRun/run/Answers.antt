use Rattle.std.proofs.Common.{◌≡◌, ◌<◌, ◌||◌, Bool, true, false, arith, length, refl, sym, ◌∙◌, ap}
use Rattle.std.proofs.lemmas.Grind.{common_steps}
use Rattle.std.proofs.lemmas.List.{length-take-le}
use Rattle.cx_script_io.specs.Facts.Lines.{unbroken_nil}
use Rattle.cx_script.proofs.CallingLemmas.{calling_keeps}
use Rattle.cx_script.proofs.ServeLemmas.{serve_finish}
use Rattle.cx_script.proofs.SessionLemmas.{ran_at_end, ran_failed, ran_past, ran_piece_stopped, seen_start, seen_taken}
use Rattle.cx_script.proofs.run.ScriptRun.run.Goals as goal

failed_now : (a b : Bool) → a ≡ (b || true) → a ≡ true
failed_now a true e = e
failed_now a false e = e

unfailed : (a b : Bool) → a ≡ (b || false) → b ≡ false → a ≡ false
unfailed a true e h = cc
unfailed a false e h = e

pub pieces-init : goal.pieces-init
pieces-init g c = (
  c.requires.reader,
  c.requires.writer,
  c.requires.waits,
  rw c.requires.part unbroken_nil,
  rw c.requires.part refl,
  omega (arith, c.requires.lines),
  omega arith,
  omega arith,
  seen_start _ g.P.Performer.performs g.D.ScriptIn.reads g.D.ScriptOut.writes _ _ _ _ _ c.requires.lines c.requires.place c.requires.part,
)

pub returns-in_default-clause-ran : goal.returns-in_default-clause-ran
returns-in_default-clause-ran g c =
    let room : 0 < length c.read.new.buffer = grind (arith, common_steps) in
    ran_failed _ g.P.Performer.performs g.D.ScriptIn.reads g.D.ScriptOut.writes _ _ _ _ _ _ _ _ _ _ _
    c.pieces.invariant.8 c.pieces.invariant.3 c.pieces.invariant.4 c.pieces.invariant.7 (c.in_default.ensures.call room) c.finish.ensures.ends

pub returns-then-taken-eq0-clause-ran : goal.returns-then-taken-eq0-clause-ran
returns-then-taken-eq0-clause-ran g c =
    let room : 0 < length c.read.new.buffer = grind (arith, common_steps) in
    ran_at_end _ g.P.Performer.performs g.D.ScriptIn.reads g.D.ScriptOut.writes _ _ _ _ _ _ _ _ _ _ _ _ _
    c.pieces.invariant.8 c.pieces.invariant.3 c.pieces.invariant.4 c.pieces.invariant.7 c.if-taken-eq0.true (c.in-Ok.ensures.call room) c.finish-then-taken-eq0.ensures.ends

pub returns-in-Err-clause-ran : goal.returns-in-Err-clause-ran
returns-in-Err-clause-ran g c =
    let room : 0 < length c.read.new.buffer = grind (arith, common_steps) in
    let least = c.min-room.ensures in
    ran_piece_stopped _ g.P.Performer.performs g.D.ScriptIn.reads g.D.ScriptOut.writes _ _ _ _ _ _ _ _ _ _ _ _ _ _ _
    c.pieces.invariant.8 c.pieces.invariant.3 c.pieces.invariant.4 (c.in-Ok.ensures.call room) c.in_front-piece.ensures (omega (arith, least)) c.in-Ok.ensures.bound
    (omega (arith, least, c.pieces.invariant.7)) (λ less. omega (arith, least, less, c.pieces.invariant.7)) c.in-Err.ensures.err

pub returns-then-room-taken-clause-ran : goal.returns-then-room-taken-clause-ran
returns-then-room-taken-clause-ran g c =
    let room : 0 < length c.read.new.buffer = grind (arith, common_steps) in
    let least = c.min-room.ensures in
    let less = c.if-room-taken.true in
    ran_past _ g.P.Performer.performs g.D.ScriptIn.reads g.D.ScriptOut.writes _ _ _ _ _ _ _ _ _ _ _ _ _ _ _ _ _ _ _
    c.pieces.invariant.8 c.pieces.invariant.3 c.pieces.invariant.4 (c.in-Ok.ensures.call room) c.in_front-piece.ensures less c.in-Ok.ensures.bound
    (omega (arith, least, less, c.pieces.invariant.7))
    (serve_finish _ g.P.Performer.performs g.D.ScriptOut.writes _ _ _ _ _ _ _ _ _ _ _ _ _ c.in_default-serve.ensures.came c.finish-then-room-taken.ensures.ends)

pub pieces-preserved : goal.pieces-preserved
pieces-preserved g c =
    let buffered : 0 < length c.read.new.buffer = grind (arith, common_steps) in
    let least = c.min-room.ensures in
    let all = c.if-room-taken.false in
    let some = c.if-taken-eq0.false in
    let few = c.in-Ok.ensures.bound in
    let call = c.in-Ok.ensures.call buffered in
    let came = c.in_default-serve.ensures.came in
    let len : length c.in_front-piece.result.now ≡ c.min-room.result = ap length c.in_front-piece.ensures ∙ length-take-le c.min-room.result c.read.new.buffer (omega (arith, least, few)) in
    let same : c.min-room.result ≡ c.in-Ok.taken = omega (arith, least, all) in (
      calling_keeps g.D.ScriptOut.writes g.D.ScriptIn.has_failed (λ a b m w. (g.met.D.ScriptDevices.write_keeps a b m w).1) _ _ _ came ∙ unfailed _ _ c.in-Ok.ensures.failure c.pieces.invariant.0,
      c.in_default-serve.ensures.failure,
      c.in_default-serve.ensures.waits,
      c.in_default-serve.ensures.unbroken,
      c.in_default-serve.ensures.not_too_long,
      omega (arith, c.in_default-serve.ensures.lines, c.pieces.invariant.5, len, same),
      omega (arith, c.pieces.invariant.6, some),
      omega (arith, least, same, c.pieces.invariant.7),
      seen_taken _ g.P.Performer.performs g.D.ScriptIn.reads g.D.ScriptOut.writes _ _ _ _ _ _ _ _ _ _ _ _ _ _ _ _ _ _
          c.pieces.invariant.8 c.pieces.invariant.3 c.pieces.invariant.4 call c.in_front-piece.ensures same few some (omega (arith, least, same, c.pieces.invariant.7)) came,
    )

-- ---- whether a read has failed, or a write was refused
pub finish-requires-clause-failure : goal.finish-requires-clause-failure
finish-requires-clause-failure g c =
    let room : 0 < length c.read.new.buffer = grind (arith, common_steps) in
    (g.met.D.ScriptDevices.read_keeps _ _ _ (c.in_default.ensures.call room)).1 ∙ c.pieces.invariant.1

pub finish-requires-then-taken-eq0-clause-failure : goal.finish-requires-then-taken-eq0-clause-failure
finish-requires-then-taken-eq0-clause-failure g c =
    let room : 0 < length c.read.new.buffer = grind (arith, common_steps) in
    (g.met.D.ScriptDevices.read_keeps _ _ _ (c.in-Ok.ensures.call room)).1 ∙ c.pieces.invariant.1

pub serve-requires-clause-failure : goal.serve-requires-clause-failure
serve-requires-clause-failure g c =
    let room : 0 < length c.read.new.buffer = grind (arith, common_steps) in
    (g.met.D.ScriptDevices.read_keeps _ _ _ (c.in-Ok.ensures.call room)).1 ∙ c.pieces.invariant.1

pub returns-in_default-clause-read : goal.returns-in_default-clause-read
returns-in_default-clause-read g c =
    calling_keeps g.D.ScriptOut.writes g.D.ScriptIn.has_failed (λ a b m w. (g.met.D.ScriptDevices.write_keeps a b m w).1) _ _ _ c.finish.ensures.ends
    ∙ failed_now _ _ c.in_default.ensures.failure ∙ sym c.finish.ensures.read

pub returns-then-taken-eq0-clause-read : goal.returns-then-taken-eq0-clause-read
returns-then-taken-eq0-clause-read g c =
    calling_keeps g.D.ScriptOut.writes g.D.ScriptIn.has_failed (λ a b m w. (g.met.D.ScriptDevices.write_keeps a b m w).1) _ _ _ c.finish-then-taken-eq0.ensures.ends
    ∙ unfailed _ _ c.in-Ok.ensures.failure c.pieces.invariant.0 ∙ sym c.finish-then-taken-eq0.ensures.read

pub returns-in-Err-clause-read : goal.returns-in-Err-clause-read
returns-in-Err-clause-read g c =
    calling_keeps g.D.ScriptOut.writes g.D.ScriptIn.has_failed (λ a b m w. (g.met.D.ScriptDevices.write_keeps a b m w).1) _ _ _ c.in-Err.ensures.err
    ∙ unfailed _ _ c.in-Ok.ensures.failure c.pieces.invariant.0 ∙ sym c.in-Err.ensures.unread

pub returns-then-room-taken-clause-read : goal.returns-then-room-taken-clause-read
returns-then-room-taken-clause-read g c =
    calling_keeps g.D.ScriptOut.writes g.D.ScriptIn.has_failed (λ a b m w. (g.met.D.ScriptDevices.write_keeps a b m w).1) _ _ _ c.finish-then-room-taken.ensures.ends
    ∙ calling_keeps g.D.ScriptOut.writes g.D.ScriptIn.has_failed (λ a b m w. (g.met.D.ScriptDevices.write_keeps a b m w).1) _ _ _ c.in_default-serve.ensures.came
    ∙ unfailed _ _ c.in-Ok.ensures.failure c.pieces.invariant.0 ∙ sym c.finish-then-room-taken.ensures.read
