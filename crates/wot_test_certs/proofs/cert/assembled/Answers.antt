use Rattle.wot_test_certs.proofs.cert.assembled.Goals as goal

pub assemble-requires-clause-short : goal.assemble-requires-clause-short
assemble-requires-clause-short c = rw c.deref.ensures.value c.in-Ok.ensures.short
