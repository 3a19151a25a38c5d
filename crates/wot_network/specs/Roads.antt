-- The keyring and the time that roads stand for, by the network and the keyring that they borrow.
use Rattle.wot_network.specs.Net.{Present}
use Rattle.wot_network.specs.declared.roads.NetRoads.{NetRoads}

-- the keyring at the time of the network that is up to date with it
abbrev pub present_of : NetRoads → Present
present_of roads = record { keyring = roads.keyring.now; time = roads.network.now.time }
