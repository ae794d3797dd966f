-- Time passes for the processes of the model as it does without the one more, and for that one by itself.
use Rattle.std.proofs.Common.{◌≡◌, ◌<◌, ◌≤◌, ◌+◌, ◌⊎◌, inl, inr, ℕ, List, [], ◌∷◌, ◌++◌, length, Some, sym, subst, ap, ◌∙◌, arith}
use Rattle.std.specs.Prelude.{slice_get}
use Rattle.std.proofs.lemmas.Bool.{cases_lt}
use Rattle.std.proofs.lemmas.Option.{same_Some}
use Rattle.std.proofs.lemmas.List.{length-append}
use Rattle.pz_rules.specs.pz_syntax.Classes.{ModelTree}
use Rattle.pz_bind_levels.specs.Places.{Address}
use Rattle.pz_rules.specs.pz_bind_rules.Nest.{class_at}
use Rattle.pz_rules.specs.Terms.{Term}
use Rattle.pz_rules.specs.Settings.{Setting, Process, left_by, Context}
use Rattle.pz_rules.specs.Delays.{Passes}
use Rattle.pz_rules.specs.Configurations.{Config, Stands}
use Rattle.pz_rules.specs.Steps.{PassesTo}
use Rattle.pz_env_same.specs.SameRules.{SameRules, in_model, seen_in, SeesTheSame}
use Rattle.pz_env_same.specs.OneMore.{OneMore, behind, IsOf, number_of_more}
use Rattle.pz_env_same.specs.SystemLaws.{seen_more, MorePasses, HavePassed}
use Rattle.pz_env_same.proofs.Lists.{got_first, got_last, Split, split_last}
use Rattle.pz_env_same.proofs.Parts.{in_both}
use Rattle.pz_env_same.proofs.Deeds.{passes}
use Rattle.pz_env_same.proofs.Leading.{config}
use Rattle.pz_env_same.proofs.Behind.{context, processes_see, is_of, stands_there, stands_back, again_there, last_place, more_stands, alone_stands}

module _ (n : ModelTree) (g : Setting) (c e : Config) (p : Process) (same : SameRules g.model n) (more : OneMore g c e p) (d : ℕ) where
  abbrev there : Setting
  there = in_model n g

  abbrev k : ℕ
  k = number_of_more g.model

  abbrev after_of : Process → Term → Process
  after_of q x = left_by q.state x

  -- what is left of one process
  abbrev IsLeftOf : Config → Context → ℕ → Process → Type 0
  IsLeftOf next a i q = (x : Term) × Passes a d 0 q.term x × (slice_get next.processes i ≡ Some (after_of q x))

  -- With the one more

  module _ (next : Config) (left : Term) (old : PassesTo g c d next) (alone : MorePasses n g e p d left) where
    abbrev after : Config
    after = behind next (left_by p.state left)

    of_model : (i : ℕ) (q : Process) (a : Context) → IsOf g.model i → Stands there e i q a → IsLeftOf after a i q
    of_model i q a of st =
        let b = seen_in g.model a in
        let back = stands_back n g c e p same more i q a of st in
        let one = old.each i q b back in
        let going : Passes (seen_in n b) d 0 q.term one.0 = passes n b (processes_see n g c i q b same back) d 0 q.term one.0 one.1 in
        let low : i < length next.processes = subst (λ (j : ℕ). i < j) (sym (old.all ∙ more.whole)) of in (
          one.0,
          subst (λ (x : Context). Passes x d 0 q.term one.0) (again_there n g c e p same more i q a st) going,
          got_first next.processes (left_by p.state left ∷ []) i low ∙ one.2,
        )

    of_more : (i : ℕ) (q : Process) (a : Context) → i ≡ k → q ≡ p → Stands there e i q a → IsLeftOf after a i q
    of_more i q a number is st =
        let st_p : Stands there e k p a = subst (λ (x : Process). Stands there e k x a) is (subst (λ (j : ℕ). Stands there e j q a) number st) in
        let long : length next.processes ≡ k = old.all ∙ more.whole in
        let got : slice_get after.processes k ≡ Some (left_by p.state left) =
        ap (λ (j : ℕ). slice_get after.processes j) (sym long) ∙ got_last next.processes (left_by p.state left) in
        subst (λ (x : Process). IsLeftOf after a i x) (sym is) (subst (λ (j : ℕ). IsLeftOf after a j p) (sym number) (left, alone a st_p, got))

    pub passes_there : PassesTo there e d after
    passes_there = record {
      clock = old.clock ∙ ap (λ (t : ℕ). t + d) (sym more.clock);
      all = length-append next.processes (left_by p.state left ∷ []) ∙ ap (λ (j : ℕ). j + 1) old.all
          ∙ sym (ap length more.processes ∙ length-append c.processes (p ∷ []));
      each = λ i q a st. by i q a st (cases_lt i k);
    }
      where
        by : (i : ℕ) (q : Process) (a : Context) → Stands there e i q a → (i < k) ⊎ (k ≤ i) → IsLeftOf after a i q
        by i q a st (inl of) = of_model i q a of st
        by i q a st (inr past) =
            let last = more_stands n g c e p same more i q a st (λ of. omega (arith, of, past)) in
            of_more i q a last.0 last.1 st

  -- Without it

  module _ (after : Config) (new : PassesTo there e d after) where
    parts : Split after.processes k
    parts = split_last after.processes k (new.all ∙ ap length more.processes ∙ length-append c.processes (p ∷ []) ∙ ap (λ (j : ℕ). j + 1) more.whole ∙ omega arith)

    abbrev next : Config
    next = config after.clock parts.front

    abbrev alone : Context
    alone = seen_more n g e p same

    stands : Stands there e k p alone
    stands = alone_stands n g c e p same more

    abbrev left : Term
    left = (new.each k p alone stands).0

    is_alone : (a : Context) → Stands there e k p a → a ≡ alone
    is_alone a st =
        let place : st.place ≡ same.more = same_Some st.place same.more (sym st.is_process ∙ last_place n g c e p same more) in
        st.seen ∙ ap (λ (z : Address). context there k (class_at n z) e.clock p.state) place

    last_left : parts.last ≡ left_by p.state left
    last_left =
        let there_is : slice_get after.processes k ≡ Some parts.last =
        ap (λ (ps : List Process). slice_get ps k) parts.is
        ∙ ap (λ (j : ℕ). slice_get (parts.front ++ parts.last ∷ []) j) (sym parts.long) ∙ got_last parts.front parts.last in
        same_Some parts.last (left_by p.state left) (sym there_is ∙ (new.each k p alone stands).2)

    each_left : (i : ℕ) (q : Process) (a : Context) → Stands g c i q a → IsLeftOf next a i q
    each_left i q a st =
        let of : IsOf g.model i = is_of n g c e p same more i q a st in
        let one = new.each i q (seen_in n a) (stands_there n g c e p same more i q a st) in
        let low : i < length parts.front = subst (λ (j : ℕ). i < j) (sym parts.long) of in
        let sees : SeesTheSame n a = processes_see n g c i q a same st in (
          one.0,
          (in_both (λ (b : Context). Passes b d 0 q.term one.0) (λ m b is. passes m b is d 0 q.term one.0) n a sees).1 one.1,
          sym (got_first parts.front (parts.last ∷ []) i low) ∙ ap (λ (ps : List Process). slice_get ps i) (sym parts.is) ∙ one.2,
        )

    pub have_passed : HavePassed n g c e p d after
    have_passed = record {
      next = next;
      left = left;
      passes = record { clock = new.clock ∙ ap (λ (t : ℕ). t + d) more.clock; all = parts.long ∙ sym more.whole; each = each_left };
      more = λ a st. subst (λ (b : Context). Passes b d 0 p.term left) (sym (is_alone a st)) (new.each k p alone stands).1;
      is = ap (λ (ps : List Process). config after.clock ps) (parts.is ∙ ap (λ (x : Process). parts.front ++ x ∷ []) last_left);
    }
