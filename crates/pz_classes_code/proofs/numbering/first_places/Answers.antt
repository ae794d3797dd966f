use Rattle.std.proofs.Common.{length, ap, arith}
use Rattle.std.proofs.lemmas.List.{length-take}
use Rattle.pz_classes_code.proofs.numbering.first_places.Goals as goal

pub places_of-requires : goal.places_of-requires
places_of-requires c =
    let same = length-take 4294967295 c.args.names.now in
    let long = ap length c.first.ensures in
    omega (arith, same, long)
