use Rattle.std.proofs.Common.{rules, sym}
use Rattle.wot_cache.specs.Inside.{AllFit}
use Rattle.wot_cache.proofs.Inside.{fit_set, fits_found, kept_fit}
use Rattle.wot_cache.proofs.networks.refresh.Goals as goal

pub refresh-requires : goal.refresh-requires
refresh-requires c = record {
  fits = fits_found c.args.keyring.now c.args.networks.now.entries c.args.view.now
      c.in-Some.network.now c.requires.fit (sym c.in-Some.ensures.value);
}

pub returns-in-Some-clause-fit : goal.returns-in-Some-clause-fit
returns-in-Some-clause-fit c =
    rw (c.get_mut.follows.holds c.refresh.new.self).0 (fit_set c.args.keyring.now c.args.networks.now.entries
    c.args.view.now c.refresh.new.self c.requires.fit c.refresh.ensures.fits)

pub returns-in_ok-name-in-None-clause-fit : goal.returns-in_ok-name-in-None-clause-fit
returns-in_ok-name-in-None-clause-fit c =
    let before : AllFit c.get_mut.follows.lender-at-none.entries c.args.keyring.now = search rules in
    kept_fit c.args.keyring.now c.get_mut.follows.lender-at-none.entries c.keep.new.networks.entries _
    c.refresh-in-None.new.self c.keep.result c.keep.ensures.put c.keep.ensures.kept before
    c.refresh-in-None.ensures.fits
