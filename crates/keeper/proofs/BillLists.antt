-- The numbers on the bills held: what a push and a removal leave, and which settle a place names.
use Rattle.std.proofs.lemmas.List.{length-map, get_or-map, map-append, take-map, drop-map}

pub ruleset held_bills = (map-append, take-map, drop-map, get_or-map, length-map)
