-- The offers of the process are those that are told.
use Rattle.std.proofs.Common.{◌≡◌, ◌∙◌, ap, List, length, get_or, set, arith}
use Rattle.std.specs.Prelude.{map}
use Rattle.std.specs.Vec.{with_items}
use Rattle.std.proofs.lemmas.List.{get_or_default, map-set, with_items_is}
use Rattle.std.proofs.lemmas.Option.{get_or_from_slice_get}
use Rattle.pz_match.specs.declared.kept.Offers.{Offers}
use Rattle.pz_match.specs.declared.kept.Sending.{Sending}
use Rattle.pz_match.specs.declared.kept.Receiving.{Receiving}
use Rattle.pz_match.specs.devices.Kept.{Kept, kept}
use Rattle.pz_match.specs.devices.Again.{receive_again, send_again, told_again}
use Rattle.pz_match.proofs.Couples.{item_kept}
use Rattle.pz_match.proofs.again.tell_again.Goals as goal

pub tell_sends-requires : goal.tell_sends-requires
tell_sends-requires c =
    let old : Offers = get_or c.args.all.now c.args.process c.index-all-process.result in
    let item = item_kept c.args.all.now c.args.process old c.requires.within (get_or_default c.args.all.now c.args.process c.index-all-process.result old c.requires.within) in
    ap length c.as_mut_slice.ensures.value ∙ c.requires.sends (kept old) item.2

pub tell_receives-requires : goal.tell_receives-requires
tell_receives-requires c =
    let old : Offers = get_or c.args.all.now c.args.process c.index-all-process.result in
    let item = item_kept c.args.all.now c.args.process old c.requires.within (get_or_default c.args.all.now c.args.process c.index-all-process.result old c.requires.within) in
    ap length c.as_mut_slice-2.ensures.value ∙ c.requires.receives (kept old) item.2

pub returns : goal.returns
returns c e there =
    let p = c.args.process in
    let old : Offers = get_or c.args.all.now p c.index-all-process.result in
    let item = item_kept c.args.all.now p old c.requires.within (get_or_default c.args.all.now p c.index-all-process.result old c.requires.within) in
    let same : kept old ≡ e = item.1 ∙ get_or_from_slice_get (map kept c.args.all.now) p e (kept old) there in
    let sends : c.tell_sends.new.sends ≡ told_again send_again e.sends c.args.sends.items
    = c.tell_sends.ensures ∙ ap (λ (ss : List Sending). told_again send_again ss c.args.sends.items) (c.as_mut_slice.ensures.value ∙ ap (λ (k : Kept). k.sends) same) in
    let receives : c.tell_receives.new.receives ≡ told_again receive_again e.receives c.args.receives.items
    = c.tell_receives.ensures ∙ ap (λ (rs : List Receiving). told_again receive_again rs c.args.receives.items) (c.as_mut_slice-2.ensures.value ∙ ap (λ (k : Kept). k.receives) same) in
    let now : Offers = record { process = old.process; sends = with_items old.sends c.tell_sends.new.sends; receives = with_items old.receives c.tell_receives.new.receives } in
    let sends_long = ap length c.as_mut_slice.ensures.value in
    let receives_long = ap length c.as_mut_slice-2.ensures.value in
    let now_sends : now.sends.items ≡ told_again send_again e.sends c.args.sends.items = with_items_is old.sends c.tell_sends.new.sends (omega (arith, c.tell_sends.auto.sends, sends_long, old.sends.ok.0)) ∙ sends in
    let now_receives : now.receives.items ≡ told_again receive_again e.receives c.args.receives.items = with_items_is old.receives c.tell_receives.new.receives (omega (arith, c.tell_receives.auto.receives, receives_long, old.receives.ok.0)) ∙ receives in
    map-set kept c.args.all.now p now ∙ (λ i. set (map kept c.args.all.now) p (record { process = (same i).process; sends = now_sends i; receives = now_receives i }))
