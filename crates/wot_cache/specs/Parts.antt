-- What an engine lends at once to a listing or an explanation.
use Rattle.std.specs.Prelude.{◌≡◌}
use Rattle.wot_keyring_spec.specs.Keyring.{Keyring}
use Rattle.wot_network.specs.Net.{Present}
use Rattle.wot_network.specs.Roads.{present_of}
use Rattle.wot_answers.specs.declared.parts.Parts.{Parts}
use Rattle.wot_cache.specs.declared.view.View.{View}

-- the keyring and the time of a view's roads
abbrev pub present_from : Keyring → View → Present
present_from k v = record { keyring = k; time = v.time }

-- the parts are the keyring, its roads at the view's time, the view's roots, and its time
pub record ArePartsOf (k : Keyring) (v : View) (p : Parts) : Type 0 where
  pub keyring : p.keyring.now ≡ k
  pub roads : present_of p.roads ≡ present_from k v
  pub roots : p.roots.now ≡ v.roots
  pub time : p.t ≡ v.time
