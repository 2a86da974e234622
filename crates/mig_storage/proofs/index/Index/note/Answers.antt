use Rattle.std.proofs.Common.{◌≡◌, ℕ, refl}
use Rattle.std.specs.BTreeSet.{contains}
use Rattle.mig_storage.specs.Index.{entry_cmp}
use Rattle.mig_storage.proofs.EntryLemmas.{noted, taken_out}
use Rattle.mig_storage.proofs.index.Index.note.Goals.{in-Some, in_default}
use Rattle.mig_storage.proofs.index.Index.note.Goals as goal

pub returns-in_ok-insert-clause-ok : goal.returns-in_ok-insert-clause-ok
returns-in_ok-insert-clause-ok c =
    let before = λ (code p : ℕ). contains entry_cmp c.args.self.now.places (code, p) in
    let out : (code p : ℕ) → contains entry_cmp c.match-old.self.places (code, p) ≡ taken_out c.args.old c.args.place code p (contains entry_cmp c.args.self.now.places (code, p)) =
    elim c.match-old.branch [
      | in-Some w ↦ λ code p. rw (w.self-is, w.in-Some.is) (w.remove.ensures.updates.0 (code, p))
      | in_default w ↦ λ code p. rw (w.self-is, w.in_default.is) refl
    ] in
    noted c.args.place c.args.old c.args.new before (λ code p. contains entry_cmp c.insert.new.self (code, p)) c.requires (λ code p. rw (c.in-Some-new.is, ← out code p) (c.in_ok-insert.ensures.updates.0 (code, p)))

pub returns-in_default-new-clause-ok : goal.returns-in_default-new-clause-ok
returns-in_default-new-clause-ok c =
    let before = λ (code p : ℕ). contains entry_cmp c.args.self.now.places (code, p) in
    let out : (code p : ℕ) → contains entry_cmp c.match-old.self.places (code, p) ≡ taken_out c.args.old c.args.place code p (contains entry_cmp c.args.self.now.places (code, p)) =
    elim c.match-old.branch [
      | in-Some w ↦ λ code p. rw (w.self-is, w.in-Some.is) (w.remove.ensures.updates.0 (code, p))
      | in_default w ↦ λ code p. rw (w.self-is, w.in_default.is) refl
    ] in
    noted c.args.place c.args.old c.args.new before (λ code p. contains entry_cmp c.match-old.self.places (code, p)) c.requires (λ code p. rw (c.in_default-new.is) (out code p))
