use Rattle.std.proofs.Common.{◌∙◌, Ok, Err, refl, sym, subst, ap}
use Rattle.std.specs.Prelude.{slice_index_or, slice_set}
use Rattle.std.proofs.lemmas.Option.{slice_get-get_or}
use Rattle.pz_bind.specs.pz_classes.CheckedView.{checked_model}
use Rattle.pz_rules.specs.pz_state.Marks.{IsLatest, undone}
use Rattle.pz_rules.specs.pz_bind_rules.Nest.{class_at}
use Rattle.pz_rules.specs.Leaving.{residual, swept}
use Rattle.pz_rules.specs.Settings.{left_by}
use Rattle.pz_rules.specs.Messages.{Hands, Takes}
use Rattle.pz_rules.specs.View.{term_view}
use Rattle.pz_term_processes.specs.declared.process.Process.{Process}
use Rattle.pz_term_processes.specs.Standing.{setting_of, process_view}
use Rattle.pz_term_processes.specs.pz_part_opening.Homes.{home_view}
use Rattle.pz_term_steps.specs.devices.Deeds.{CanSend, CanReceive, begun_process, seen_at}
use Rattle.pz_term_steps.proofs.Lists.{get_other, set_back, set_within, first_still, second_still, both_back}
use Rattle.pz_term_steps.proofs.AtHome.{net_has, knows_there, can_there, leaves_there}
use Rattle.pz_term_steps.proofs.Marked.{may_act}
use Rattle.pz_term_steps.proofs.Finished.{process_is, begun_latest, begun_undone, begun_trouble, acts_still, leaves_so_far, leaves_finished, leaves_trouble, acts_at}
use Rattle.pz_term_steps.proofs.Nexts.{talk, communicated, sender_trouble, receiver_trouble}
use Rattle.pz_term_steps.proofs.stepping.communicate.Goals as goal

pub returns-in-Err-clause-steps : goal.returns-in-Err-clause-steps
returns-in-Err-clause-steps c =
    let setting = setting_of (checked_model c.args.checked.now) c.args.limits in
    let ps = c.args.processes.now in
    let t = talk setting c.args.clock ps c.args.sender.now c.args.receiver.now c.args.parcel.now c.requires.pair in
    let i = c.args.sender.now.process in
    let j = c.args.receiver.now.process in
    let p = slice_index_or ps i c.index-processes-from.result in
    let at_p = slice_get-get_or ps i c.index-processes-from.result t.sends.within in
    let p1 = c.begin_send.new.process in
    let class_p = class_at setting.model t.sends.home in
    let seen_p = seen_at setting i class_p c.args.clock p.state.held in
    let place_p = c.as_slice-sends_at.result.now in
    let can_send = t.sends.able p at_p class_p refl place_p c.as_slice-sends_at.ensures in
    let home_p = home_view c.home_at-sends_home.result in
    let leaves_p = leaves_there setting.model c.args.limits (record { classes = c.classes.result; limits = c.args.limits; process = c.args.sender.now.process; clock = c.args.clock }) c.home_at-sends_home.result t.sends.home (c.home_at-sends_home.ensures.home t.sends.home t.sends.at_home) refl (λ a f. Hands a f c.args.parcel.now) p.state.held (term_view p.term) place_p (begun_process home_p (term_view p.term) place_p p1.state.held c.in_ok-sent.field-0)
    (c.in_ok-sent.ensures.leaves c.args.parcel.now (can_there setting.model c.args.limits (record { classes = c.classes.result; limits = c.args.limits; process = c.args.sender.now.process; clock = c.args.clock }) c.home_at-sends_home.result t.sends.home (c.home_at-sends_home.ensures.home t.sends.home t.sends.at_home) refl (CanSend c.args.parcel.now) p.state.held (term_view p.term) place_p can_send)) in
    sender_trouble setting c.args.clock ps c.args.sender.now c.args.receiver.now c.args.parcel.now c.each_list_has_an_outcome.ensures.law c.requires.pair c.in-Err.trouble
    (acts_at setting c.args.clock ps c.args.sender.now (CanSend c.args.parcel.now) t.sends p at_p (λ a f. Hands a f c.args.parcel.now) class_p refl place_p c.as_slice-sends_at.ensures (Err c.in-Err.trouble)
    (leaves_trouble home_p seen_p (λ a f. Hands a f c.args.parcel.now) p p1 place_p c.in_ok-sent.field-0 leaves_p c.in-Err.trouble c.in-Err.is))

pub returns-in-Err-clause-stays : goal.returns-in-Err-clause-stays
returns-in-Err-clause-stays c =
    let setting = setting_of (checked_model c.args.checked.now) c.args.limits in
    let ps = c.args.processes.now in
    let t = talk setting c.args.clock ps c.args.sender.now c.args.receiver.now c.args.parcel.now c.requires.pair in
    let i = c.args.sender.now.process in
    let j = c.args.receiver.now.process in
    let p = slice_index_or ps i c.index-processes-from.result in
    let at_p = slice_get-get_or ps i c.index-processes-from.result t.sends.within in
    let p1 = c.begin_send.new.process in
    ap (λ (x : Process). slice_set ps i x)
    (process_is p1 p c.begin_send.ensures.term (begun_trouble p.state p1.state c.in_ok-sent.field-0 c.in-Err.trouble c.in-Err.is c.in_ok-sent.ensures.state))
    ∙ set_back ps i p at_p

pub bounds-processes-to : goal.bounds-processes-to
bounds-processes-to c =
    let setting = setting_of (checked_model c.args.checked.now) c.args.limits in
    let ps = c.args.processes.now in
    let t = talk setting c.args.clock ps c.args.sender.now c.args.receiver.now c.args.parcel.now c.requires.pair in
    let i = c.args.sender.now.process in
    let j = c.args.receiver.now.process in
    set_within ps i c.begin_send.new.process j t.receives.within

pub home_at-sends_home-requires-clause-there : goal.home_at-sends_home-requires-clause-there
home_at-sends_home-requires-clause-there c =
    let setting = setting_of (checked_model c.args.checked.now) c.args.limits in
    let ps = c.args.processes.now in
    let t = talk setting c.args.clock ps c.args.sender.now c.args.receiver.now c.args.parcel.now c.requires.pair in
    net_has setting.model c.args.net.now c.args.sender.now.process t.sends.home c.requires.of_model t.sends.at_home

pub home_at-home-requires-clause-there : goal.home_at-home-requires-clause-there
home_at-home-requires-clause-there c =
    let setting = setting_of (checked_model c.args.checked.now) c.args.limits in
    let ps = c.args.processes.now in
    let t = talk setting c.args.clock ps c.args.sender.now c.args.receiver.now c.args.parcel.now c.requires.pair in
    net_has setting.model c.args.net.now c.args.receiver.now.process t.receives.home c.requires.of_model t.receives.at_home

pub begin_send-requires-clause-knows : goal.begin_send-requires-clause-knows
begin_send-requires-clause-knows c =
    let setting = setting_of (checked_model c.args.checked.now) c.args.limits in
    let ps = c.args.processes.now in
    let t = talk setting c.args.clock ps c.args.sender.now c.args.receiver.now c.args.parcel.now c.requires.pair in
    knows_there setting.model c.args.limits (record { classes = c.classes.result; limits = c.args.limits; process = c.args.sender.now.process; clock = c.args.clock }) c.home_at-sends_home.result t.sends.home (c.home_at-sends_home.ensures.home t.sends.home t.sends.at_home) refl c.classes.ensures.tabled

pub begin_send-requires-clause-can : goal.begin_send-requires-clause-can
begin_send-requires-clause-can c =
    let setting = setting_of (checked_model c.args.checked.now) c.args.limits in
    let ps = c.args.processes.now in
    let t = talk setting c.args.clock ps c.args.sender.now c.args.receiver.now c.args.parcel.now c.requires.pair in
    let i = c.args.sender.now.process in
    let p = slice_index_or ps i c.index-processes-from.result in
    let at_p = slice_get-get_or ps i c.index-processes-from.result t.sends.within in
    let place_p = c.as_slice-sends_at.result.now in
    (c.args.parcel.now, can_there setting.model c.args.limits (record { classes = c.classes.result; limits = c.args.limits; process = c.args.sender.now.process; clock = c.args.clock }) c.home_at-sends_home.result t.sends.home (c.home_at-sends_home.ensures.home t.sends.home t.sends.at_home) refl (CanSend c.args.parcel.now) p.state.held (term_view p.term) place_p (t.sends.able p at_p (class_at setting.model t.sends.home) refl place_p c.as_slice-sends_at.ensures))

pub begin_receive-requires-clause-knows : goal.begin_receive-requires-clause-knows
begin_receive-requires-clause-knows c =
    let setting = setting_of (checked_model c.args.checked.now) c.args.limits in
    let ps = c.args.processes.now in
    let t = talk setting c.args.clock ps c.args.sender.now c.args.receiver.now c.args.parcel.now c.requires.pair in
    knows_there setting.model c.args.limits (record { classes = c.classes.result; limits = c.args.limits; process = c.args.receiver.now.process; clock = c.args.clock }) c.home_at-home.result t.receives.home (c.home_at-home.ensures.home t.receives.home t.receives.at_home) refl c.classes.ensures.tabled

pub begin_receive-requires-clause-can : goal.begin_receive-requires-clause-can
begin_receive-requires-clause-can c =
    let setting = setting_of (checked_model c.args.checked.now) c.args.limits in
    let ps = c.args.processes.now in
    let t = talk setting c.args.clock ps c.args.sender.now c.args.receiver.now c.args.parcel.now c.requires.pair in
    let i = c.args.sender.now.process in
    let j = c.args.receiver.now.process in
    let p = slice_index_or ps i c.index-processes-from.result in
    let at_p = slice_get-get_or ps i c.index-processes-from.result t.sends.within in
    let p1 = c.begin_send.new.process in
    let ps1 = slice_set ps i p1 in
    let q = slice_index_or ps1 j c.index-processes-to.result in
    let at_q = sym (get_other ps i j p1 t.apart) ∙ slice_get-get_or ps1 j c.index-processes-to.result (set_within ps i p1 j t.receives.within) in
    let class_q = class_at setting.model t.receives.home in
    let seen_q = seen_at setting j class_q c.args.clock q.state.held in
    let place_q = c.as_slice-receives_at.result.now in
    let can_receive = t.receives.able q at_q class_q refl place_q c.as_slice-receives_at.ensures in
    can_there setting.model c.args.limits (record { classes = c.classes.result; limits = c.args.limits; process = c.args.receiver.now.process; clock = c.args.clock }) c.home_at-home.result t.receives.home (c.home_at-home.ensures.home t.receives.home t.receives.at_home) refl CanReceive q.state.held (term_view q.term) place_q can_receive

pub bounds-processes-from-in-Ok-2 : goal.bounds-processes-from-in-Ok-2
bounds-processes-from-in-Ok-2 c =
    let setting = setting_of (checked_model c.args.checked.now) c.args.limits in
    let ps = c.args.processes.now in
    let t = talk setting c.args.clock ps c.args.sender.now c.args.receiver.now c.args.parcel.now c.requires.pair in
    let i = c.args.sender.now.process in
    let j = c.args.receiver.now.process in
    set_within (slice_set ps i c.begin_send.new.process) j c.begin_receive.new.process i (set_within ps i c.begin_send.new.process i t.sends.within)

pub finish-requires-clause-may_act : goal.finish-requires-clause-may_act
finish-requires-clause-may_act c =
    let setting = setting_of (checked_model c.args.checked.now) c.args.limits in
    let ps = c.args.processes.now in
    let t = talk setting c.args.clock ps c.args.sender.now c.args.receiver.now c.args.parcel.now c.requires.pair in
    let i = c.args.sender.now.process in
    let j = c.args.receiver.now.process in
    let p = slice_index_or ps i c.index-processes-from.result in
    let at_p = slice_get-get_or ps i c.index-processes-from.result t.sends.within in
    let p1 = c.begin_send.new.process in
    let class_p = class_at setting.model t.sends.home in
    let seen_p = seen_at setting i class_p c.args.clock p.state.held in
    let place_p = c.as_slice-sends_at.result.now in
    let can_send = t.sends.able p at_p class_p refl place_p c.as_slice-sends_at.ensures in
    let ps1 = slice_set ps i p1 in
    let q = slice_index_or ps1 j c.index-processes-to.result in
    let at_q = sym (get_other ps i j p1 t.apart) ∙ slice_get-get_or ps1 j c.index-processes-to.result (set_within ps i p1 j t.receives.within) in
    let q1 = c.begin_receive.new.process in
    let now_p = slice_index_or (slice_set ps1 j q1) i c.index-processes-from-in-Ok-2.result in
    let still_p = first_still ps i j p1 q1 c.index-processes-from-in-Ok-2.result t.apart t.sends.within in
    acts_still p now_p place_p (ap (λ (x : Process). x.term) still_p ∙ c.begin_send.ensures.term)
    (may_act (CanSend c.args.parcel.now) seen_p (term_view p.term) place_p can_send c.active_parts_may_act.ensures.law)

pub finish-requires-clause-latest : goal.finish-requires-clause-latest
finish-requires-clause-latest c =
    let setting = setting_of (checked_model c.args.checked.now) c.args.limits in
    let ps = c.args.processes.now in
    let t = talk setting c.args.clock ps c.args.sender.now c.args.receiver.now c.args.parcel.now c.requires.pair in
    let i = c.args.sender.now.process in
    let j = c.args.receiver.now.process in
    let p = slice_index_or ps i c.index-processes-from.result in
    let at_p = slice_get-get_or ps i c.index-processes-from.result t.sends.within in
    let p1 = c.begin_send.new.process in
    let ps1 = slice_set ps i p1 in
    let q = slice_index_or ps1 j c.index-processes-to.result in
    let at_q = sym (get_other ps i j p1 t.apart) ∙ slice_get-get_or ps1 j c.index-processes-to.result (set_within ps i p1 j t.receives.within) in
    let q1 = c.begin_receive.new.process in
    let now_p = slice_index_or (slice_set ps1 j q1) i c.index-processes-from-in-Ok-2.result in
    let still_p = first_still ps i j p1 q1 c.index-processes-from-in-Ok-2.result t.apart t.sends.within in
    subst (λ (x : Process). IsLatest x.state c.in-Ok.sent.point) (sym still_p)
    (begun_latest p.state p1.state c.in_ok-sent.field-0 c.in-Ok.sent c.in-Ok.is c.in_ok-sent.ensures.state)

pub bounds-processes-to-in-Ok-2 : goal.bounds-processes-to-in-Ok-2
bounds-processes-to-in-Ok-2 c =
    let setting = setting_of (checked_model c.args.checked.now) c.args.limits in
    let ps = c.args.processes.now in
    let t = talk setting c.args.clock ps c.args.sender.now c.args.receiver.now c.args.parcel.now c.requires.pair in
    let i = c.args.sender.now.process in
    let j = c.args.receiver.now.process in
    let p = slice_index_or ps i c.index-processes-from.result in
    let at_p = slice_get-get_or ps i c.index-processes-from.result t.sends.within in
    let p1 = c.begin_send.new.process in
    let q1 = c.begin_receive.new.process in
    set_within (slice_set (slice_set ps i p1) j q1) i c.finish.new.process j (set_within (slice_set ps i p1) j q1 j (set_within ps i p1 j t.receives.within))

pub finish-requires-in-Ok-2-clause-may_act : goal.finish-requires-in-Ok-2-clause-may_act
finish-requires-in-Ok-2-clause-may_act c =
    let setting = setting_of (checked_model c.args.checked.now) c.args.limits in
    let ps = c.args.processes.now in
    let t = talk setting c.args.clock ps c.args.sender.now c.args.receiver.now c.args.parcel.now c.requires.pair in
    let i = c.args.sender.now.process in
    let j = c.args.receiver.now.process in
    let p = slice_index_or ps i c.index-processes-from.result in
    let at_p = slice_get-get_or ps i c.index-processes-from.result t.sends.within in
    let p1 = c.begin_send.new.process in
    let ps1 = slice_set ps i p1 in
    let q = slice_index_or ps1 j c.index-processes-to.result in
    let at_q = sym (get_other ps i j p1 t.apart) ∙ slice_get-get_or ps1 j c.index-processes-to.result (set_within ps i p1 j t.receives.within) in
    let class_q = class_at setting.model t.receives.home in
    let seen_q = seen_at setting j class_q c.args.clock q.state.held in
    let place_q = c.as_slice-receives_at.result.now in
    let can_receive = t.receives.able q at_q class_q refl place_q c.as_slice-receives_at.ensures in
    let q1 = c.begin_receive.new.process in
    let p2 = c.finish.new.process in
    let now_q = slice_index_or (slice_set (slice_set ps1 j q1) i p2) j c.index-processes-to-in-Ok-2.result in
    let still_q = second_still ps i j p1 q1 p2 c.index-processes-to-in-Ok-2.result t.apart t.receives.within in
    acts_still q now_q place_q (ap (λ (x : Process). x.term) still_q ∙ c.begin_receive.ensures.term)
    (may_act CanReceive seen_q (term_view q.term) place_q can_receive c.active_parts_may_act.ensures.law)

pub finish-requires-in-Ok-2-clause-latest : goal.finish-requires-in-Ok-2-clause-latest
finish-requires-in-Ok-2-clause-latest c =
    let setting = setting_of (checked_model c.args.checked.now) c.args.limits in
    let ps = c.args.processes.now in
    let t = talk setting c.args.clock ps c.args.sender.now c.args.receiver.now c.args.parcel.now c.requires.pair in
    let i = c.args.sender.now.process in
    let j = c.args.receiver.now.process in
    let p = slice_index_or ps i c.index-processes-from.result in
    let at_p = slice_get-get_or ps i c.index-processes-from.result t.sends.within in
    let p1 = c.begin_send.new.process in
    let ps1 = slice_set ps i p1 in
    let q = slice_index_or ps1 j c.index-processes-to.result in
    let at_q = sym (get_other ps i j p1 t.apart) ∙ slice_get-get_or ps1 j c.index-processes-to.result (set_within ps i p1 j t.receives.within) in
    let q1 = c.begin_receive.new.process in
    let p2 = c.finish.new.process in
    let now_q = slice_index_or (slice_set (slice_set ps1 j q1) i p2) j c.index-processes-to-in-Ok-2.result in
    let still_q = second_still ps i j p1 q1 p2 c.index-processes-to-in-Ok-2.result t.apart t.receives.within in
    subst (λ (x : Process). IsLatest x.state c.in-Ok-2.taken.point) (sym still_q)
    (begun_latest q.state q1.state c.in_ok-taken.field-0 c.in-Ok-2.taken c.in-Ok-2.is c.in_ok-taken.ensures.state)

pub bounds-processes-from-in-Err-2 : goal.bounds-processes-from-in-Err-2
bounds-processes-from-in-Err-2 c =
    let setting = setting_of (checked_model c.args.checked.now) c.args.limits in
    let ps = c.args.processes.now in
    let t = talk setting c.args.clock ps c.args.sender.now c.args.receiver.now c.args.parcel.now c.requires.pair in
    let i = c.args.sender.now.process in
    let j = c.args.receiver.now.process in
    set_within (slice_set ps i c.begin_send.new.process) j c.begin_receive.new.process i (set_within ps i c.begin_send.new.process i t.sends.within)

pub withdraw-requires : goal.withdraw-requires
withdraw-requires c =
    let setting = setting_of (checked_model c.args.checked.now) c.args.limits in
    let ps = c.args.processes.now in
    let t = talk setting c.args.clock ps c.args.sender.now c.args.receiver.now c.args.parcel.now c.requires.pair in
    let i = c.args.sender.now.process in
    let j = c.args.receiver.now.process in
    let p = slice_index_or ps i c.index-processes-from.result in
    let at_p = slice_get-get_or ps i c.index-processes-from.result t.sends.within in
    let p1 = c.begin_send.new.process in
    let ps1 = slice_set ps i p1 in
    let q = slice_index_or ps1 j c.index-processes-to.result in
    let at_q = sym (get_other ps i j p1 t.apart) ∙ slice_get-get_or ps1 j c.index-processes-to.result (set_within ps i p1 j t.receives.within) in
    let q1 = c.begin_receive.new.process in
    let now_p = slice_index_or (slice_set ps1 j q1) i c.index-processes-from-in-Err-2.result in
    let still_p = first_still ps i j p1 q1 c.index-processes-from-in-Err-2.result t.apart t.sends.within in
    subst (λ (x : Process). IsLatest x.state c.in-Ok.sent.point) (sym still_p)
    (begun_latest p.state p1.state c.in_ok-sent.field-0 c.in-Ok.sent c.in-Ok.is c.in_ok-sent.ensures.state)

pub returns-in_ok-finish-in-Ok-2-2-clause-steps : goal.returns-in_ok-finish-in-Ok-2-2-clause-steps
returns-in_ok-finish-in-Ok-2-2-clause-steps c =
    let setting = setting_of (checked_model c.args.checked.now) c.args.limits in
    let ps = c.args.processes.now in
    let t = talk setting c.args.clock ps c.args.sender.now c.args.receiver.now c.args.parcel.now c.requires.pair in
    let i = c.args.sender.now.process in
    let j = c.args.receiver.now.process in
    let p = slice_index_or ps i c.index-processes-from.result in
    let at_p = slice_get-get_or ps i c.index-processes-from.result t.sends.within in
    let p1 = c.begin_send.new.process in
    let class_p = class_at setting.model t.sends.home in
    let seen_p = seen_at setting i class_p c.args.clock p.state.held in
    let place_p = c.as_slice-sends_at.result.now in
    let can_send = t.sends.able p at_p class_p refl place_p c.as_slice-sends_at.ensures in
    let home_p = home_view c.home_at-sends_home.result in
    let leaves_p = leaves_there setting.model c.args.limits (record { classes = c.classes.result; limits = c.args.limits; process = c.args.sender.now.process; clock = c.args.clock }) c.home_at-sends_home.result t.sends.home (c.home_at-sends_home.ensures.home t.sends.home t.sends.at_home) refl (λ a f. Hands a f c.args.parcel.now) p.state.held (term_view p.term) place_p (begun_process home_p (term_view p.term) place_p p1.state.held c.in_ok-sent.field-0)
    (c.in_ok-sent.ensures.leaves c.args.parcel.now (can_there setting.model c.args.limits (record { classes = c.classes.result; limits = c.args.limits; process = c.args.sender.now.process; clock = c.args.clock }) c.home_at-sends_home.result t.sends.home (c.home_at-sends_home.ensures.home t.sends.home t.sends.at_home) refl (CanSend c.args.parcel.now) p.state.held (term_view p.term) place_p can_send)) in
    let ps1 = slice_set ps i p1 in
    let q = slice_index_or ps1 j c.index-processes-to.result in
    let at_q = sym (get_other ps i j p1 t.apart) ∙ slice_get-get_or ps1 j c.index-processes-to.result (set_within ps i p1 j t.receives.within) in
    let class_q = class_at setting.model t.receives.home in
    let seen_q = seen_at setting j class_q c.args.clock q.state.held in
    let place_q = c.as_slice-receives_at.result.now in
    let can_receive = t.receives.able q at_q class_q refl place_q c.as_slice-receives_at.ensures in
    let q1 = c.begin_receive.new.process in
    let home_q = home_view c.home_at-home.result in
    let leaves_q = leaves_there setting.model c.args.limits (record { classes = c.classes.result; limits = c.args.limits; process = c.args.receiver.now.process; clock = c.args.clock }) c.home_at-home.result t.receives.home (c.home_at-home.ensures.home t.receives.home t.receives.at_home) refl (λ a f. Takes a f c.args.parcel.now) q.state.held (term_view q.term) place_q (begun_process home_q (term_view q.term) place_q q1.state.held c.in_ok-taken.field-0)
    c.in_ok-taken.ensures.leaves in
    let now_p = slice_index_or (slice_set ps1 j q1) i c.index-processes-from-in-Ok-2.result in
    let still_p = first_still ps i j p1 q1 c.index-processes-from-in-Ok-2.result t.apart t.sends.within in
    let p2 = c.finish.new.process in
    let now_q = slice_index_or (slice_set (slice_set ps1 j q1) i p2) j c.index-processes-to-in-Ok-2.result in
    let still_q = second_still ps i j p1 q1 p2 c.index-processes-to-in-Ok-2.result t.apart t.receives.within in
    let q2 = c.finish-in-Ok-2.new.process in
    communicated setting c.args.clock ps c.args.sender.now c.args.receiver.now c.args.parcel.now p1 q1 p2 q2 t.apart
    (acts_at setting c.args.clock ps c.args.sender.now (CanSend c.args.parcel.now) t.sends p at_p (λ a f. Hands a f c.args.parcel.now) class_p refl place_p c.as_slice-sends_at.ensures (Ok (process_view p2))
    (leaves_finished home_p seen_p (λ a f. Hands a f c.args.parcel.now) p p1 place_p c.in_ok-sent.field-0 leaves_p c.in-Ok.sent now_p p2 c.in-Ok.is still_p c.begin_send.ensures.term c.in_ok-finish-in-Ok-2.ensures))
    (acts_at setting c.args.clock ps c.args.receiver.now CanReceive t.receives q at_q (λ a f. Takes a f c.args.parcel.now) class_q refl place_q c.as_slice-receives_at.ensures (Ok (process_view q2))
    (leaves_finished home_q seen_q (λ a f. Takes a f c.args.parcel.now) q q1 place_q c.in_ok-taken.field-0 leaves_q c.in-Ok-2.taken now_q q2 c.in-Ok-2.is still_q c.begin_receive.ensures.term c.in_ok-finish-in-Ok-2-2.ensures))

pub returns-in-Err-2-clause-steps : goal.returns-in-Err-2-clause-steps
returns-in-Err-2-clause-steps c =
    let setting = setting_of (checked_model c.args.checked.now) c.args.limits in
    let ps = c.args.processes.now in
    let t = talk setting c.args.clock ps c.args.sender.now c.args.receiver.now c.args.parcel.now c.requires.pair in
    let i = c.args.sender.now.process in
    let j = c.args.receiver.now.process in
    let p = slice_index_or ps i c.index-processes-from.result in
    let at_p = slice_get-get_or ps i c.index-processes-from.result t.sends.within in
    let p1 = c.begin_send.new.process in
    let class_p = class_at setting.model t.sends.home in
    let seen_p = seen_at setting i class_p c.args.clock p.state.held in
    let place_p = c.as_slice-sends_at.result.now in
    let can_send = t.sends.able p at_p class_p refl place_p c.as_slice-sends_at.ensures in
    let home_p = home_view c.home_at-sends_home.result in
    let leaves_p = leaves_there setting.model c.args.limits (record { classes = c.classes.result; limits = c.args.limits; process = c.args.sender.now.process; clock = c.args.clock }) c.home_at-sends_home.result t.sends.home (c.home_at-sends_home.ensures.home t.sends.home t.sends.at_home) refl (λ a f. Hands a f c.args.parcel.now) p.state.held (term_view p.term) place_p (begun_process home_p (term_view p.term) place_p p1.state.held c.in_ok-sent.field-0)
    (c.in_ok-sent.ensures.leaves c.args.parcel.now (can_there setting.model c.args.limits (record { classes = c.classes.result; limits = c.args.limits; process = c.args.sender.now.process; clock = c.args.clock }) c.home_at-sends_home.result t.sends.home (c.home_at-sends_home.ensures.home t.sends.home t.sends.at_home) refl (CanSend c.args.parcel.now) p.state.held (term_view p.term) place_p can_send)) in
    let ps1 = slice_set ps i p1 in
    let q = slice_index_or ps1 j c.index-processes-to.result in
    let at_q = sym (get_other ps i j p1 t.apart) ∙ slice_get-get_or ps1 j c.index-processes-to.result (set_within ps i p1 j t.receives.within) in
    let class_q = class_at setting.model t.receives.home in
    let seen_q = seen_at setting j class_q c.args.clock q.state.held in
    let place_q = c.as_slice-receives_at.result.now in
    let can_receive = t.receives.able q at_q class_q refl place_q c.as_slice-receives_at.ensures in
    let q1 = c.begin_receive.new.process in
    let home_q = home_view c.home_at-home.result in
    let leaves_q = leaves_there setting.model c.args.limits (record { classes = c.classes.result; limits = c.args.limits; process = c.args.receiver.now.process; clock = c.args.clock }) c.home_at-home.result t.receives.home (c.home_at-home.ensures.home t.receives.home t.receives.at_home) refl (λ a f. Takes a f c.args.parcel.now) q.state.held (term_view q.term) place_q (begun_process home_q (term_view q.term) place_q q1.state.held c.in_ok-taken.field-0)
    c.in_ok-taken.ensures.leaves in
    let so_far = swept (residual home_p 0 (term_view p.term) place_p (left_by p1.state.held (term_view c.in-Ok.sent.part))) in
    receiver_trouble setting c.args.clock ps c.args.sender.now c.args.receiver.now c.args.parcel.now so_far c.in-Err-2.trouble
    (acts_at setting c.args.clock ps c.args.sender.now (CanSend c.args.parcel.now) t.sends p at_p (λ a f. Hands a f c.args.parcel.now) class_p refl place_p c.as_slice-sends_at.ensures (Ok so_far) (leaves_so_far home_p seen_p (λ a f. Hands a f c.args.parcel.now) p p1 place_p c.in_ok-sent.field-0 leaves_p c.in-Ok.sent c.in-Ok.is))
    (acts_at setting c.args.clock ps c.args.receiver.now CanReceive t.receives q at_q (λ a f. Takes a f c.args.parcel.now) class_q refl place_q c.as_slice-receives_at.ensures (Err c.in-Err-2.trouble)
    (leaves_trouble home_q seen_q (λ a f. Takes a f c.args.parcel.now) q q1 place_q c.in_ok-taken.field-0 leaves_q c.in-Err-2.trouble c.in-Err-2.is))

pub returns-in-Err-2-clause-stays : goal.returns-in-Err-2-clause-stays
returns-in-Err-2-clause-stays c =
    let setting = setting_of (checked_model c.args.checked.now) c.args.limits in
    let ps = c.args.processes.now in
    let t = talk setting c.args.clock ps c.args.sender.now c.args.receiver.now c.args.parcel.now c.requires.pair in
    let i = c.args.sender.now.process in
    let j = c.args.receiver.now.process in
    let p = slice_index_or ps i c.index-processes-from.result in
    let at_p = slice_get-get_or ps i c.index-processes-from.result t.sends.within in
    let p1 = c.begin_send.new.process in
    let ps1 = slice_set ps i p1 in
    let q = slice_index_or ps1 j c.index-processes-to.result in
    let at_q = sym (get_other ps i j p1 t.apart) ∙ slice_get-get_or ps1 j c.index-processes-to.result (set_within ps i p1 j t.receives.within) in
    let q1 = c.begin_receive.new.process in
    let now_p = slice_index_or (slice_set ps1 j q1) i c.index-processes-from-in-Err-2.result in
    let still_p = first_still ps i j p1 q1 c.index-processes-from-in-Err-2.result t.apart t.sends.within in
    let p2 = c.withdraw.new.process in
    ap (λ (x : Process). slice_set (slice_set ps1 j q1) i x)
    (process_is p2 p (c.withdraw.ensures.term ∙ ap (λ (x : Process). x.term) still_p ∙ c.begin_send.ensures.term)
    (c.withdraw.ensures.state ∙ ap (λ (x : Process). undone x.state) still_p ∙ begun_undone p.state p1.state c.in_ok-sent.field-0 c.in-Ok.sent c.in-Ok.is c.in_ok-sent.ensures.state))
    ∙ both_back ps i j p1 p q1 q t.apart at_p at_q
    (process_is q1 q c.begin_receive.ensures.term (begun_trouble q.state q1.state c.in_ok-taken.field-0 c.in-Err-2.trouble c.in-Err-2.is c.in_ok-taken.ensures.state))
