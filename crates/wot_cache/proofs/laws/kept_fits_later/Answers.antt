use Rattle.wot_cache.proofs.laws.kept_fits_later.Goals as goal

pub returns : goal.returns
returns c = record { fits = c.fits_later.ensures.later; further = c.later_is_order.ensures.further }
