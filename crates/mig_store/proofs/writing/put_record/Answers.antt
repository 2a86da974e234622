use Rattle.csv.specs.Records.{fields_of}
use Rattle.mig_store.proofs.Written.{one_more, plain}
use Rattle.mig_store.proofs.writing.put_record.Goals as goal

pub returns-in-Ok : goal.returns-in-Ok
returns-in-Ok g c = λ text h.
    one_more g.W.Write.contents _ _ text (fields_of c.args.record.now) h (c.in-Ok.ensures.bytes h.fields h.wrote (plain g.W.Write.contents _ text h)) c.in-Ok.ensures.setup c.in-Ok.ensures.ended c.in-Ok.ensures.clean
