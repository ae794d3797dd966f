-- What the receive at an end says to a parcel, of which there is one verdict.
use Rattle.std.proofs.Common.{◌≡◌, ◌<◌, ℕ, Bool, List, map, length, get_or, Option, Result, refl, sym, subst, ap, ◌∙◌}
use Rattle.std.specs.Option.{option_map}
use Rattle.std.proofs.Math.Logic.{∥∥₁_map}
use Rattle.std.proofs.lemmas.Option.{same_Some, slice_get_within, slice_get-get_or, slice_get-map}
use Rattle.std.proofs.lemmas.List.{length-map}
use Rattle.pz_classes_code.specs.pz_syntax.Classes.{ModelTree}
use Rattle.pz_bind.specs.pz_classes.declared.classes.Classes.{Classes}
use Rattle.pz_bind.specs.pz_classes.devices.Rows.{AreClasses}
use Rattle.pz_rules.specs.pz_copy.Parcels.{ParcelView}
use Rattle.pz_bind_levels.specs.Places.{Address as ProcessPlace}
use Rattle.pz_rules.specs.pz_bind_rules.Nest.{class_at}
use Rattle.pz_rules.specs.pz_offer.declared.end.End.{End}
use Rattle.pz_rules.specs.pz_offer.declared.trouble.Trouble.{Trouble}
use Rattle.pz_rules.specs.pz_offer.PlaceOrder.{Place}
use Rattle.pz_rules.specs.declared.limits.Limits.{Limits}
use Rattle.pz_rules.specs.Terms.{Term}
use Rattle.pz_rules.specs.Settings as rules
use Rattle.pz_rules.specs.Settings.{Setting, Context}
use Rattle.pz_rules.specs.Active as active
use Rattle.pz_rules.specs.Active.{Active, IsActive}
use Rattle.pz_rules.specs.Messages.{Judges}
use Rattle.pz_rules.specs.Configurations.{Config, Stands}
use Rattle.pz_rules.specs.Offers.{IsJudged}
use Rattle.pz_rules.specs.View.{term_view}
use Rattle.pz_term_residual.specs.Laws.{ActivePartsMayAct}
use Rattle.pz_rules.specs.Places.{MayAct}
use Rattle.pz_term_processes.specs.pz_eval.Known.{AreKnown}
use Rattle.pz_term_processes.specs.declared.process.Process.{Process}
use Rattle.pz_term_processes.specs.Standing.{setting_of, config_of, process_view}
use Rattle.pz_term_processes.specs.pz_part_queries.Parts.{IsPartAt}
use Rattle.pz_term_processes.specs.pz_part_queries.Laws.{OneVerdict}
use Rattle.pz_rules.specs.Acting.{IsReceive}
use Rattle.pz_rules.specs.Laws.{WhatReceivesIsAReceive}
use Rattle.pz_term_matching.specs.declared.ends.Receiver.{Receiver}
use Rattle.pz_term_enabled.specs.Surveyed.{IsReceiver}
use Rattle.pz_term_enabled.specs.devices.Judged.{HasReceive, JudgesAt}

-- One verdict

record SamePart (g h : ℕ) (x y : Term) : Type 0 where
  frame : g ≡ h
  part : x ≡ y

active_once : {a : Context} {f : ℕ} {t : Term} {place : Place} {g h : ℕ} {x y : Term} → Active a f t place g x → Active a f t place h y → SamePart g h x y
active_once (active.here f t) (active.here _ _) = record { frame = refl; part = refl }
active_once (active.inside f t i place g x r k) (active.inside _ _ _ _ h y r' l) = active_once k l

module _ (setting : Setting) (c : Config) where
  record SameStands (a b : Context) (p q : rules.Process) : Type 0 where
    seen : a ≡ b
    process : p ≡ q

  stands_once : (i : ℕ) (p q : rules.Process) (a b : Context) → Stands setting c i p a → Stands setting c i q b → SameStands a b p q
  stands_once i p q a b x y =
      let place : x.place ≡ y.place = same_Some x.place y.place (sym x.is_process ∙ y.is_process) in
      let process : p ≡ q = same_Some p q (sym x.is_here ∙ y.is_here) in
      let seen_at : ProcessPlace → rules.Process → Context = λ l z. record { setting = setting; process = i; class = class_at setting.model l; clock = c.clock; state = z.state } in
      record {
        seen = x.seen ∙ ap (λ (l : ProcessPlace). seen_at l p) place ∙ ap (λ (z : rules.Process). seen_at y.place z) process ∙ sym y.seen;
        process = process;
      }

  pub verdict_once : OneVerdict → (receiver : End) (parcel : ParcelView) (v w : Result Bool Trouble) → IsJudged setting c receiver parcel v → IsJudged setting c receiver parcel w → v ≡ w
  verdict_once law receiver parcel v w x y =
      let same = stands_once receiver.process x.active.process y.active.process x.seen y.seen x.active.stands y.active.stands in
      let here : IsActive y.seen y.active.process.term receiver.place x.frame x.part =
      subst (λ (a : Context). IsActive a y.active.process.term receiver.place x.frame x.part) same.seen
      (subst (λ (p : rules.Process). IsActive x.seen p.term receiver.place x.frame x.part) same.process x.active.active) in
      let one = active_once here y.active.active in
      let judges : Judges y.seen y.frame parcel y.part v =
      subst (λ (t : Term). Judges y.seen y.frame parcel t v) one.part
      (subst (λ (f : ℕ). Judges y.seen f parcel x.part v) one.frame (subst (λ (a : Context). Judges a x.frame parcel x.part v) same.seen x.judges)) in
      law y.seen y.frame parcel y.part v w judges y.judges

-- What is asked of the part at a place

pub may_act : ActivePartsMayAct → (t : Term) (place slice : Place) → slice ≡ place → HasReceive t place → MayAct t slice
may_act law t place slice same x = subst (λ (p : Place). MayAct t p) (sym same) (law x.seen t place x.frame x.part x.active)

pub receives_there : (t part : Term) (place slice : Place) (frame : ℕ) → slice ≡ place → HasReceive t place → IsPartAt 0 t slice frame part → IsReceive part
receives_there t part place slice frame same x is =
    let there = is x.seen x.frame x.part (subst (λ (p : Place). IsActive x.seen t p x.frame x.part) (sym same) x.active) in
    subst (λ (y : Term). IsReceive y) (sym there.1) x.receive

pub judges_at : (a : Context) (t part : Term) (place slice : Place) (frame : ℕ) (parcel : ParcelView) (verdict : Result Bool Trouble) → slice ≡ place → IsPartAt 0 t slice frame part
    → Judges a frame parcel part verdict → JudgesAt a t place parcel verdict
judges_at a t part place slice frame parcel verdict same is judges f x active =
    let there = is a f x (subst (λ (p : Place). IsActive a t p f x) (sym same) active) in
    subst (λ (y : Term). Judges a f parcel y verdict) there.1 (subst (λ (g : ℕ). Judges a g parcel part verdict) there.0 judges)

-- The process of a receive, among those of the code

pub are_known : (m : ModelTree) (classes : Classes) → ∥ AreClasses m classes ∥₁ → AreKnown classes
are_known m classes known = ∥∥₁_map known (λ (k : AreClasses m classes). (m, k))

module _ (m : ModelTree) (limits : Limits) (clock : ℕ) (ps : List Process) where
  pub process_within : (r : Receiver) → IsReceiver (setting_of m limits) (config_of clock ps) r → r.end.process < length ps
  process_within r x =
      let within : r.end.process < length (map process_view ps) = slice_get_within (map process_view ps) r.end.process x.active.process x.active.stands.is_here in
      subst (λ (n : ℕ). r.end.process < n) (length-map ps process_view) within

  -- it is the one of the code at this place
  process_is : (r : Receiver) (x : IsReceiver (setting_of m limits) (config_of clock ps) r) (d : Process) → x.active.process ≡ process_view (get_or ps r.end.process d)
  process_is r x d =
      same_Some x.active.process (process_view (get_or ps r.end.process d))
      (sym x.active.stands.is_here ∙ slice_get-map process_view ps r.end.process ∙ ap (λ (o : Option Process). option_map process_view o) (slice_get-get_or ps r.end.process d (process_within r x)))

  pub has_receive : WhatReceivesIsAReceive → (r : Receiver) → IsReceiver (setting_of m limits) (config_of clock ps) r → (d : Process) → HasReceive (term_view (get_or ps r.end.process d).term) r.end.place
  has_receive law r x d = record {
    seen = x.seen;
    frame = x.frame;
    part = x.part;
    active = subst (λ (q : rules.Process). IsActive x.seen q.term r.end.place x.frame x.part) (process_is r x d) x.active.active;
    receive = law x.part x.pos x.port r.message r.count x.receives;
  }

  -- as its statements see it
  abbrev pub seen_as : (r : Receiver) → IsReceiver (setting_of m limits) (config_of clock ps) r → rules.Process → Context
  seen_as r x q = record { setting = setting_of m limits; process = r.end.process; class = class_at m x.active.stands.place; clock = clock; state = q.state }

  -- the verdict of the part at its place is that of the rules
  pub is_judged : (r : Receiver) (x : IsReceiver (setting_of m limits) (config_of clock ps) r) (d : Process) (parcel : ParcelView) (verdict : Result Bool Trouble)
      → JudgesAt (seen_as r x (process_view (get_or ps r.end.process d))) (term_view (get_or ps r.end.process d).term) r.end.place parcel verdict
      → IsJudged (setting_of m limits) (config_of clock ps) r.end parcel verdict
  is_judged r x d parcel verdict judges =
      let p = get_or ps r.end.process d in
      let same = process_is r x d in
      let seen : x.seen ≡ seen_as r x (process_view p) = x.active.stands.seen ∙ ap (λ (q : rules.Process). seen_as r x q) same in
      record {
        seen = x.seen;
        frame = x.frame;
        part = x.part;
        active = x.active;
        judges =
            subst (λ (a : Context). Judges a x.frame parcel x.part verdict) (sym seen)
            (judges x.frame x.part (subst (λ (a : Context). IsActive a (term_view p.term) r.end.place x.frame x.part) seen (subst (λ (q : rules.Process). IsActive x.seen q.term r.end.place x.frame x.part) same x.active.active)));
      }
