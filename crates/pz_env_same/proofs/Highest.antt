-- The first process that is too high, and whether all are done.
use Rattle.std.proofs.Common.{◌≡◌, ℕ, List, [], ◌∷◌, ◌++◌, sym, subst, ap, ◌∙◌, arith}
use Rattle.std.specs.List.{All}
use Rattle.std.proofs.lemmas.List.Elements.{All-nil, All-cons, All-append}
use Rattle.pz_rules.specs.pz_syntax.Classes.{ModelTree}
use Rattle.pz_rules.specs.pz_classes_rules.Starts.{init}
use Rattle.pz_rules.specs.pz_bind_rules.Nest.{class_at}
use Rattle.pz_rules.specs.pz_offer.declared.trouble.Trouble.{Trouble}
use Rattle.pz_rules.specs.Terms.{done}
use Rattle.pz_rules.specs.Settings.{Setting, Process, Context}
use Rattle.pz_rules.specs.Configurations.{Config, Stands}
use Rattle.pz_rules.specs.Moments.{IsFirstHigh, AllDone}
use Rattle.pz_env_same.specs.SameRules.{SameRules, in_model, seen_in}
use Rattle.pz_env_same.specs.OneMore.{OneMore, IsOf}
use Rattle.pz_env_same.proofs.Lists.{All-front, All-last}
use Rattle.pz_env_same.proofs.Behind.{here_there, is_of, stands_there, stands_back}

module _ (n : ModelTree) (g : Setting) (c e : Config) (p : Process) (same : SameRules g.model n) (more : OneMore g c e p) where
  -- a process has the same `init` call in both
  init_same : (i : ℕ) (q : Process) (a : Context) → Stands g c i q a → init g.model a.class ≡ init n a.class
  init_same i q a st =
      let class : a.class ≡ class_at g.model st.place = ap (λ (b : Context). b.class) st.seen in
      ap (init g.model) class ∙ (same.each i st.place st.is_process).init ∙ ap (init n) (sym class)

  pub high_there : (trouble : Trouble) → IsFirstHigh g c trouble → IsFirstHigh (in_model n g) e trouble
  high_there trouble is =
      let of : IsOf g.model is.number = is_of n g c e p same more is.number is.process is.seen is.stands in
      record {
        number = is.number;
        process = is.process;
        seen = seen_in n is.seen;
        stands = stands_there n g c e p same more is.number is.process is.seen is.stands;
        high = is.high;
        first = λ i q here before. is.first i q (sym (here_there n g c e p same more i (omega (arith, of, before))) ∙ here) before;
        pos = is.pos;
        method = is.method;
        args = is.args;
        begins = sym (init_same is.number is.process is.seen is.stands) ∙ is.begins;
        says = is.says;
      }

  pub high_back : (trouble : Trouble) (is : IsFirstHigh (in_model n g) e trouble) → IsOf g.model is.number → IsFirstHigh g c trouble
  high_back trouble is of =
      let stands = stands_back n g c e p same more is.number is.process is.seen of is.stands in
      record {
        number = is.number;
        process = is.process;
        seen = seen_in g.model is.seen;
        stands = stands;
        high = is.high;
        first = λ i q here before. is.first i q (here_there n g c e p same more i (omega (arith, of, before)) ∙ here) before;
        pos = is.pos;
        method = is.method;
        args = is.args;
        begins = init_same is.number is.process (seen_in g.model is.seen) stands ∙ is.begins;
        says = is.says;
      }

pub done_there : (g : Setting) (c e : Config) (p : Process) → OneMore g c e p → AllDone c → p.term ≡ done → AllDone e
done_there g c e p more all is =
    let IsDone : Process → Type 0 = λ q. q.term ≡ done in
    subst (λ (ps : List Process). All IsDone ps) (sym more.processes) (All-append IsDone c.processes (p ∷ []) all (All-cons IsDone p [] is (All-nil IsDone)))

pub done_back : (g : Setting) (c e : Config) (p : Process) → OneMore g c e p → AllDone e → AllDone c × (p.term ≡ done)
done_back g c e p more all =
    let IsDone : Process → Type 0 = λ q. q.term ≡ done in
    let here : All IsDone (c.processes ++ p ∷ []) = subst (λ (ps : List Process). All IsDone ps) more.processes all in
    (All-front IsDone c.processes (p ∷ []) here, All-last IsDone c.processes p here)
