-- What opens for a part that acts, as a part of what that becomes.
use Rattle.std.proofs.Common.{◌≡◌, ◌<◌, ℕ, suc, Result, Ok, Err, subst, sym, ap, ◌∙◌, arith}
use Rattle.pz_classes_code.specs.pz_syntax.declared.tokens.Pos.{Pos}
use Rattle.pz_rules.specs.pz_state.Marks.{Seen}
use Rattle.pz_rules.specs.pz_offer.declared.trouble.Trouble.{Trouble}
use Rattle.pz_rules.specs.pz_offer.declared.trouble.Trouble.TheVariants.{High}
use Rattle.pz_rules.specs.declared.term.Term.{Term as Part}
use Rattle.pz_rules.specs.Terms.{Term, height}
use Rattle.pz_rules.specs.Settings.{Context, Process}
use Rattle.pz_rules.specs.InternalActions.{Performs}
use Rattle.pz_rules.specs.Becoming.{Became}
use Rattle.pz_rules.specs.View.{term_view}
use Rattle.pz_part_queries.specs.declared.standpoint.Standpoint.{Standpoint}
use Rattle.pz_part_actions.specs.Becoming.{process_left, Becomes, HasPerformed}
use Rattle.pz_part_actions.specs.Becoming as becoming
use Rattle.pz_part_actions.specs.devices.Openings.{OpensAs}
use Rattle.pz_part_actions.proofs.Becomings.{became_left}

-- what a part becomes is answered as it is
pub answered : (a : Context) (f : ℕ) (part : Term) (at : Pos) (r : Result Process Trouble) → Performs a f part at r → HasPerformed a f part at r
answered a f part at r performs = record { left = r; performs = performs; becomes = becoming.is r }

-- or what opens is too high
module _ (here : Standpoint) (at : Pos) (x : Process) (old new : Seen) where
  pub opens_low : (r : Result Part Trouble) (t : Part) → r ≡ Ok t → OpensAs here at x old new r → Became x (term_view t) old new
  opens_low r t is = subst (OpensAs here at x old new) is

  pub opens_high : (r : Result Part Trouble) (trouble : Trouble) → r ≡ Err trouble → OpensAs here at x old new r → (here.limits.height < height x.term) × (trouble ≡ High here.process at)
  opens_high r trouble is = subst (OpensAs here at x old new) is

  pub opening_answered : (a : Context) (f : ℕ) (part : Term) → here.limits.height ≡ a.setting.limits.height → here.process ≡ a.process
      → (r : Result Part Trouble) → Performs a f part at (Ok x) → OpensAs here at x old new r → HasPerformed a f part at (process_left new.held r)
  opening_answered a f part limits process (Ok t) performs opens = record {
    left = Ok x;
    performs = performs;
    becomes = subst (λ (p : Process). let q : Result Process Trouble = Ok p in Becomes a at (Ok x) q) (became_left x (term_view t) old new opens) (becoming.is (Ok x));
  }
  opening_answered a f part limits process (Err trouble) performs opens = record {
    left = Ok x;
    performs = performs;
    becomes =
        subst (λ (u : Trouble). let q : Result Process Trouble = Err u in Becomes a at (Ok x) q) (sym (opens.1 ∙ ap (λ (n : ℕ). High n at) process))
        (becoming.high x (subst (λ (n : ℕ). n < height x.term) limits opens.0));
  }

-- within a loop

pub loop_high : (n : ℕ) (body : Process) → n < height body.term → n < suc (height body.term)
loop_high n body above = omega (arith, above)
