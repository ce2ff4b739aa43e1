use Rattle.capture.proofs.checking.CaptureTryFromRefSliceU8.TheImpl.Goals as goal

-- the trait's one fact is the two clauses together
pub try_from-tells : goal.try_from-tells
try_from-tells g c = (c.ensures.holds, c.ensures.carries)
