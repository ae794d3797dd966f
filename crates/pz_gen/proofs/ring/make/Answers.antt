use Rattle.std.proofs.Common.{◌≡◌, ◌∙◌, ap, string_bytes, codes}
use Rattle.pz_gen.specs.Ring.{classes, each, station, channel, halting, model}
use Rattle.pz_gen.proofs.Stations.{all_parts}
use Rattle.pz_gen.proofs.ring.make.Goals as goal

pub returns : goal.returns
returns c =
    let written : string_bytes c.add_halting.new.text ≡ model c.args.n =
    all_parts classes (each c.args.n station) (codes "v : Supervisor\nchannels\n") (each c.args.n (channel c.args.n)) (halting c.args.n)
    _ _ _ _ _ c.in_ok-text.ensures.ok c.in_ok-add_stations.ensures c.in_ok-push_str.ensures.bytes c.in_ok-add_channels.ensures c.in_ok-add_halting.ensures in
    ap (λ v. v.items) c.into_bytes.ensures.value ∙ written
