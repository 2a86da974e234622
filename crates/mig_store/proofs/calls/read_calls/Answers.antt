use Rattle.std.proofs.Common.{Bor, List, ℕ, ◌∙◌, ◌≤◌, ◌+◌, Some, arith, ap, inl, inr, refl, sym}
use Rattle.std.proofs.lemmas.Result.{err_from_is_err_and}
use Rattle.csv.specs.Records.{fields_of}
use Rattle.mig_store.specs.Reading.{records_in}
use Rattle.mig_store.proofs.Counted.{at_end, at_start, below, call_told, fault_told, parted, so_far, too_many}
use Rattle.mig_store.proofs.Records.{left-all, left-more, left-none}
use Rattle.mig_store.proofs.Sound.{calls-read}
use Rattle.mig_store.proofs.calls.read_calls.Goals as goal

pub loop-record-init : goal.loop-record-init
loop-record-init c =
    let from = c.from_reader-reader.ensures in
    let plain = c.has_headers.ensures in
    let any = c.flexible.ensures in
    let start = c.into_iter-record-iterator.ensures.into_iter_gives ∙ refl in
    let rdr = c.into_byte_records-record-items.ensures.rdr in
    let left = c.into_byte_records-record-items.ensures.left in
    rw (start, rdr, c.new-calls.ensures) (
      rw (any, plain) at from.trim ∙ c.new.ensures.trim,
      inr (inr (rw (any, plain) at from.has_headers, from.headers)),
      left,
      omega arith,
      records_in c.args.bytes.now,
      left-all (λ (s : Bor (List ℕ)). Some s.now) c.from_reader-reader.result c.args.bytes.now (rw (any, plain) at from.config ∙ c.new.ensures.config) from.state from.source,
      at_start c.args.program.now (records_in c.args.bytes.now),
    )

pub returns-then-count-eq100000-clause-said : goal.returns-then-count-eq100000-clause-said
returns-then-count-eq100000-clause-said c =
    let inv = c.loop-record.invariant in
    let s = rw (c.in-Some.is, c.in-Ok.is) at ((c.next.ensures.steps inv.2 inv.0).0 inv.1) in
    let r = fields_of c.in-Ok.record in
    let m = left-more (λ (s : Bor (List ℕ)). Some s.now) c.loop-record.record-iterator.rdr c.next.new.self.rdr r inv.4 inv.5 s.0 in
    let p = c.args.program.now in
    let rest = parted p c.loop-record.calls c.loop-record.count inv.4 r m.behind _ m.split inv.6 in
    inr (sym (too_many p c.loop-record.calls c.loop-record.count r m.behind c.if-count-eq100000.true) ∙ rest)

pub returns-in_err-call_said-clause-said : goal.returns-in_err-call_said-clause-said
returns-in_err-call_said-clause-said c =
    let q = err_from_is_err_and c.from_residual.result c.from_residual.ensures.1 in
    let inv = c.loop-record.invariant in
    let s = rw (c.in-Some.is, c.in-Ok.is) at ((c.next.ensures.steps inv.2 inv.0).0 inv.1) in
    let r = fields_of c.in-Ok.record in
    let m = left-more (λ (s : Bor (List ℕ)). Some s.now) c.loop-record.record-iterator.rdr c.next.new.self.rdr r inv.4 inv.5 s.0 in
    let p = c.args.program.now in
    let rest = parted p c.loop-record.calls c.loop-record.count inv.4 r m.behind _ m.split inv.6 in
    let l = below c.loop-record.count 100000 inv.3 c.if-count-eq100000.false in
    rw (q.1, q.2) (fault_told p c.loop-record.calls c.loop-record.count r m.behind _ c.in_err-call_said.field-0.0 l rest c.in_err-call_said.ensures)

pub loop-record-preserved : goal.loop-record-preserved
loop-record-preserved c =
    let inv = c.loop-record.invariant in
    let s = rw (c.in-Some.is, c.in-Ok.is) at ((c.next.ensures.steps inv.2 inv.0).0 inv.1) in
    let r = fields_of c.in-Ok.record in
    let m = left-more (λ (s : Bor (List ℕ)). Some s.now) c.loop-record.record-iterator.rdr c.next.new.self.rdr r inv.4 inv.5 s.0 in
    let p = c.args.program.now in
    let rest = parted p c.loop-record.calls c.loop-record.count inv.4 r m.behind _ m.split inv.6 in
    let l = below c.loop-record.count 100000 inv.3 c.if-count-eq100000.false in
    let few : c.loop-record.count + 1 ≤ 100000 = omega (arith, l) in (
      s.0.3 ∙ inv.0,
      inl s.1,
      s.2,
      few,
      m.behind,
      m.left,
      call_told p c.loop-record.calls c.push.new.self c.loop-record.count r m.behind _ c.in_ok-call_said.field-0 c.in_ok-push.ensures.ok l rest c.in_ok-call_said.ensures,
    )

pub returns-clause-said : goal.returns-clause-said
returns-clause-said c =
    let inv = c.loop-record.invariant in
    let s = rw c.in-None.is at ((c.next.ensures.steps inv.2 inv.0).0 inv.1) in
    let none = left-none (λ (s : Bor (List ℕ)). Some s.now) c.loop-record.record-iterator.rdr c.next.new.self.rdr inv.4 inv.5 s in
    let p = c.args.program.now in
    inr (sym (at_end p c.loop-record.calls c.loop-record.count inv.3) ∙ ap (so_far p c.loop-record.calls c.loop-record.count) (sym none) ∙ inv.6)

pub returns-clause-sound : goal.returns-clause-sound
returns-clause-sound c =
    let inv = c.loop-record.invariant in
    let s = rw c.in-None.is at ((c.next.ensures.steps inv.2 inv.0).0 inv.1) in
    let none = left-none (λ (s : Bor (List ℕ)). Some s.now) c.loop-record.record-iterator.rdr c.next.new.self.rdr inv.4 inv.5 s in
    let p = c.args.program.now in
    let all = sym inv.6 ∙ ap (so_far p c.loop-record.calls c.loop-record.count) none ∙ at_end p c.loop-record.calls c.loop-record.count inv.3 in
    (calls-read p (records_in c.args.bytes.now) (record { calls = c.loop-record.calls }) all).0

pub returns-clause-short : goal.returns-clause-short
returns-clause-short c =
    let inv = c.loop-record.invariant in
    let s = rw c.in-None.is at ((c.next.ensures.steps inv.2 inv.0).0 inv.1) in
    let none = left-none (λ (s : Bor (List ℕ)). Some s.now) c.loop-record.record-iterator.rdr c.next.new.self.rdr inv.4 inv.5 s in
    let p = c.args.program.now in
    let all = sym inv.6 ∙ ap (so_far p c.loop-record.calls c.loop-record.count) none ∙ at_end p c.loop-record.calls c.loop-record.count inv.3 in
    (calls-read p (records_in c.args.bytes.now) (record { calls = c.loop-record.calls }) all).1

pub returns-clause-few : goal.returns-clause-few
returns-clause-few c =
    let inv = c.loop-record.invariant in
    let s = rw c.in-None.is at ((c.next.ensures.steps inv.2 inv.0).0 inv.1) in
    let none = left-none (λ (s : Bor (List ℕ)). Some s.now) c.loop-record.record-iterator.rdr c.next.new.self.rdr inv.4 inv.5 s in
    let p = c.args.program.now in
    let all = sym inv.6 ∙ ap (so_far p c.loop-record.calls c.loop-record.count) none ∙ at_end p c.loop-record.calls c.loop-record.count inv.3 in
    (calls-read p (records_in c.args.bytes.now) (record { calls = c.loop-record.calls }) all).2
