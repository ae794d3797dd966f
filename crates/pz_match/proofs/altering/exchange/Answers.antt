-- What a table keeps, once a process has other offers.
use Rattle.std.proofs.Common.{◌≡◌, ◌<◌, ◌/◌, ◌∙◌, ap, subst, List, length, get_or, Some, arith}
use Rattle.std.specs.List.{slice_get}
use Rattle.std.specs.Prelude.{map}
use Rattle.std.proofs.lemmas.Option.{slice_get-get_or}
use Rattle.std.proofs.lemmas.List.{length-map, get_or_default}
use Rattle.pz_offer.specs.declared.ends.SendOffer.{SendOffer}
use Rattle.pz_offer.specs.declared.ends.ReceiveOffer.{ReceiveOffer}
use Rattle.pz_match.specs.declared.kept.Offers.{Offers}
use Rattle.pz_match.specs.devices.Kept.{Kept, kept}
use Rattle.pz_match.specs.devices.Updating.{silent}
use Rattle.pz_match.specs.devices.Users.{Noted}
use Rattle.pz_match.proofs.Shared.{shared_after, new_at}
use Rattle.pz_match.proofs.Shown.{stands_after}
use Rattle.pz_match.proofs.Noting.{keeps_users, used_after}
use Rattle.pz_match.proofs.Askers.{keeps_askers, askers_after}
use Rattle.pz_match.proofs.altering.exchange.Goals as goal

pub replace_in-requires-clause-users : goal.replace_in-requires-clause-users
replace_in-requires-clause-users g c =
    keeps_users c.args.users.now c.note.new.self (map kept c.args.all.now.items) c.in_ok-note.ensures.senders_kept c.in_ok-note.ensures.receivers_kept c.requires.whole.used

pub replace_in-requires-clause-askers : goal.replace_in-requires-clause-askers
replace_in-requires-clause-askers g c =
    keeps_askers c.args.users.now.askers c.note.new.self.askers (map kept c.args.all.now.items) c.in_ok-note.ensures.askers_kept c.requires.whole.asks

pub returns-clause-whole : goal.returns-clause-whole
returns-clause-whole g c =
    let all = map kept c.args.all.now.items in
    let whole = c.requires.whole in
    let says = g.J.Judge.verdict c.args.judge.now in
    let new = map kept c.replace_in.new.all.items in
    let p = c.args.process in
    let below : p < length all = omega (arith, c.requires.within, length-map c.args.all.now.items kept) in
    let noted : Noted c.args.users.now c.note.new.self p c.args.sends.items c.args.receives.items
    = subst (λ (ss : List SendOffer). Noted c.args.users.now c.note.new.self p ss c.args.receives.items) c.as_slice.ensures.value
    (subst (λ (rs : List ReceiveOffer). Noted c.args.users.now c.note.new.self p c.as_slice.result.now rs) c.as_slice-2.ensures.value c.in_ok-note.ensures) in
    let r = c.in_ok-replace_in.ensures.replaced in
    record {
      stands = stands_after says p c.args.sends.items c.args.receives.items c.args.groups.now c.replace_in.new.groups all new whole.stands r below c.requires.sends_ordered c.requires.receives_ordered;
      used =
          used_after says p c.args.sends.items c.args.receives.items c.args.groups.now c.replace_in.new.groups all new r below
          (λ k. k) c.args.users.now.senders c.note.new.self.senders c.args.users.now.receivers c.note.new.self.receivers whole.used noted.senders_kept noted.receivers_kept noted.sending noted.receiving;
      asks =
          askers_after says p c.args.sends.items c.args.receives.items c.args.groups.now c.replace_in.new.groups all new r below
          c.args.users.now.askers c.note.new.self.askers whole.asks noted.askers_kept noted.asking;
      in_blocks =
          used_after says p c.args.sends.items c.args.receives.items c.args.groups.now c.replace_in.new.groups all new r below
          (λ k. k / 64) c.args.users.now.blocks c.note.new.self.blocks c.args.users.now.blocks c.note.new.self.blocks whole.in_blocks noted.blocks_kept noted.blocks_kept noted.sending_blocks noted.receiving_blocks;
      shared =
          let old : Kept = get_or all p (silent p) in
          let is : old ≡ get_or all p old = get_or_default all p (silent p) old below in
          let now : Kept = record { process = p; sends = r.sent; receives = r.heard } in
          let was_there : slice_get (map kept c.as_slice-3.result.now) p ≡ Some old
          = ap (λ (xs : List Offers). slice_get (map kept xs) p) c.as_slice-3.ensures.value ∙ slice_get-get_or all p (silent p) below in
          let is_there : slice_get (map kept c.as_slice-4.result.now) p ≡ Some now
          = ap (λ (xs : List Offers). slice_get (map kept xs) p) c.as_slice-4.ensures.value ∙ new_at says p c.args.sends.items c.args.receives.items c.args.groups.now c.replace_in.new.groups all new r below in
          shared_after says p c.args.sends.items c.args.receives.items c.args.groups.now c.replace_in.new.groups all new r below
          c.args.shares.now c.shift.new.shares c.shift-2.new.shares whole.shared old is (c.in_ok-shift.ensures old was_there) (c.in_ok-shift-2.ensures now is_there);
    }
