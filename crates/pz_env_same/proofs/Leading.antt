-- An action of processes of the model leads on to the same, with the one more behind it.
use Rattle.std.proofs.Common.{◌≡◌, ◌<◌, ℕ, List, [], ◌∷◌, length, set, Result, Ok, Err, refl, sym, subst, ap, ◌∙◌}
use Rattle.std.proofs.lemmas.List.{length-set, set-append_left}
use Rattle.std.proofs.Math.Seq.{set-append_seam}
use Rattle.pz_rules.specs.pz_syntax.Classes.{ModelTree}
use Rattle.pz_rules.specs.pz_offer.declared.end.End.{End}
use Rattle.pz_rules.specs.pz_offer.declared.trouble.Trouble.{Trouble}
use Rattle.pz_rules.specs.declared.action.Action.{Action}
use Rattle.pz_rules.specs.declared.action.Action.TheVariants.{Internal, Comm}
use Rattle.pz_rules.specs.Settings.{Setting, Process}
use Rattle.pz_rules.specs.Meanings.{and_then}
use Rattle.pz_rules.specs.InternalActions.{Performs}
use Rattle.pz_rules.specs.Messages.{Hands, Takes}
use Rattle.pz_rules.specs.Configurations.{Config}
use Rattle.pz_rules.specs.Steps as steps
use Rattle.pz_rules.specs.Steps.{Acts, with_process, with_both, Next}
use Rattle.pz_env_same.specs.SameRules.{SameRules, in_model}
use Rattle.pz_env_same.specs.OneMore.{OneMore, behind, result_behind, IsOf, number_of_more, IsActionOf}
use Rattle.pz_env_same.proofs.Meeting.{performs_same, hands_same, takes_same, acts_meets}
use Rattle.pz_env_same.proofs.Behind.{to_there, from_there}

abbrev pub config : ℕ → List Process → Config
config clock ps = record { clock = clock; processes = ps }

-- What one process becomes

pub becomes_same : (g : Setting) (c e : Config) (p : Process) (i : ℕ) (q : Process) → IsOf g.model i → OneMore g c e p → OneMore g (with_process c i q) (with_process e i q) p
becomes_same g c e p i q of more = record {
  whole = length-set c.processes i q ∙ more.whole;
  clock = more.clock;
  processes = ap (λ (ps : List Process). set ps i q) more.processes ∙ set-append_left c.processes (p ∷ []) i q (subst (λ (k : ℕ). i < k) (sym more.whole) of);
}

pub more_becomes : (g : Setting) (c e : Config) (p q : Process) → OneMore g c e p → OneMore g c (with_process e (number_of_more g.model) q) q
more_becomes g c e p q more = record {
  whole = more.whole;
  clock = more.clock;
  processes = ap (λ (k : ℕ). set e.processes k q) (sym more.whole) ∙ ap (λ (ps : List Process). set ps (length c.processes) q) more.processes
      ∙ set-append_seam c.processes p [] q;
}

pub is_behind : (g : Setting) (c e : Config) (p : Process) → OneMore g c e p → e ≡ behind c p
is_behind g c e p more = ap (λ (t : ℕ). config t e.processes) more.clock ∙ ap (λ (ps : List Process). config c.clock ps) more.processes

one_behind : (g : Setting) (c e : Config) (p : Process) (i : ℕ) (q : Process) → IsOf g.model i → OneMore g c e p → with_process e i q ≡ behind (with_process c i q) p
one_behind g c e p i q of more = is_behind g (with_process c i q) (with_process e i q) p (becomes_same g c e p i q of more)

both_behind : (g : Setting) (c e : Config) (p : Process) (s r : End) (q x : Process) → IsOf g.model s.process → IsOf g.model r.process → OneMore g c e p
    → with_both e s r q x ≡ behind (with_both c s r q x) p
both_behind g c e p s r q x of_s of_r more = one_behind g (with_process c s.process q) (with_process e s.process q) p r.process x of_r (becomes_same g c e p s.process q of_s more)

-- What an action leads to

module _ (n : ModelTree) (g : Setting) (c e : Config) (p : Process) (same : SameRules g.model n) (more : OneMore g c e p) where
  abbrev there : Setting
  there = in_model n g

  one_result : (i : ℕ) → IsOf g.model i → (result : Result Process Trouble)
      → and_then result (λ q. Ok (with_process e i q)) ≡ result_behind (and_then result (λ q. Ok (with_process c i q))) p
  one_result i of (Ok q) = ap Ok (one_behind g c e p i q of more)
  one_result i of (Err t) = refl

  both_result : (s r : End) → IsOf g.model s.process → IsOf g.model r.process → (sent taken : Result Process Trouble)
      → and_then sent (λ q. and_then taken (λ x. Ok (with_both e s r q x))) ≡ result_behind (and_then sent (λ q. and_then taken (λ x. Ok (with_both c s r q x)))) p
  both_result s r of_s of_r (Ok q) (Ok x) = ap Ok (both_behind g c e p s r q x of_s of_r more)
  both_result s r of_s of_r (Ok q) (Err t) = refl
  both_result s r of_s of_r (Err t) taken = refl

  pub leads_there : (a : Action) → IsActionOf g.model a → (r : Result Config Trouble) → Next g c a r → Next there e a (result_behind r p)
  leads_there _ of _ (steps.internal at kind pos result acts) =
      subst (λ (x : Result Config Trouble). Next there e (Internal at kind pos) x) (one_result at.process of result)
      (steps.internal at kind pos result (acts_meets g c there e Performs performs_same at result (to_there n g c e p same more at.process of) acts))
  leads_there _ of _ (steps.communication wire s r message parcel sent taken hands takes) =
      subst (λ (x : Result Config Trouble). Next there e (Comm wire s r message parcel) x) (both_result s r of.0 of.1 sent taken)
      (steps.communication wire s r message parcel sent taken
      (acts_meets g c there e (λ a f. Hands a f parcel) (hands_same parcel) s sent (to_there n g c e p same more s.process of.0) hands)
      (acts_meets g c there e (λ a f. Takes a f parcel) (takes_same parcel) r taken (to_there n g c e p same more r.process of.1) takes))

  pub leads_back : (a : Action) → IsActionOf g.model a → (x : Result Config Trouble) → Next there e a x → (r : Result Config Trouble) × Next g c a r × (x ≡ result_behind r p)
  leads_back _ of _ (steps.internal at kind pos result acts) = (
    and_then result (λ q. Ok (with_process c at.process q)),
    steps.internal at kind pos result (acts_meets there e g c Performs performs_same at result (from_there n g c e p same more at.process of) acts),
    one_result at.process of result,
  )
  leads_back _ of _ (steps.communication wire s r message parcel sent taken hands takes) = (
    and_then sent (λ q. and_then taken (λ x. Ok (with_both c s r q x))),
    steps.communication wire s r message parcel sent taken
        (acts_meets there e g c (λ a f. Hands a f parcel) (hands_same parcel) s sent (from_there n g c e p same more s.process of.0) hands)
        (acts_meets there e g c (λ a f. Takes a f parcel) (takes_same parcel) r taken (from_there n g c e p same more r.process of.1) takes),
    both_result s r of.0 of.1 sent taken,
  )
