-- What a bare fact says of a part: all that is asked of it is no more than that.
use Rattle.std.proofs.Common.{◌≡◌, ℕ, Option, Some, None, Result, Ok, Err, refl, ap}
use Rattle.std.proofs.Math.Logic.{∥∥₁_elim, ∥∥₁_map}
use Rattle.std.proofs.Math.Bridge.{le_prop}
use Rattle.std.proofs.Math.Nat.{ℕ_set}
use Rattle.pz_classes_code.specs.pz_syntax.declared.tokens.Pos.{Pos}
use Rattle.pz_classes_code.specs.pz_syntax.Statements.{skip, delay, bracketed, block, guarded, parallel, select, conditional, repeated, abort, interrupt, send, receive, call, assignment, value}
use Rattle.pz_rules.specs.pz_offer.declared.trouble.Trouble.{Trouble}
use Rattle.pz_rules.specs.Acting.{ActsAlone, IsActing, IsSend, IsReceive}
use Rattle.pz_rules.specs.Terms as term
use Rattle.pz_rules.specs.Terms.{Step, Term, Terms, done, no_terms, and}
use Rattle.pz_rules.specs.View.{term_view}
use Rattle.pz_rules.specs.declared.limits.Edition.{Edition}
use Rattle.pz_rules.specs.declared.limits.Edition.TheVariants.{One, Two}
use Rattle.pz_rules.specs.pz_state.Marks.{Seen, IsLatest, point_of_first}
use Rattle.pz_rules.specs.pz_state.States.{StateView}
use Rattle.pz_tree_regrowing.specs.pz_tree_standing.Frames.{open_as, HaveOpened}
use Rattle.pz_rules.specs.Short.{IsShort, AreShort}
use Rattle.pz_tree_regrowing.specs.pz_tree_standing.Soon.{HasRoom}
use Rattle.pz_tree_regrowing.specs.pz_tree_standing.FrameCounts.{times}
use Rattle.pz_tree_acting.specs.declared.beginning.Begun.{Begun}
use Rattle.pz_tree_acting.specs.declared.how.How.{How}
use Rattle.pz_tree_acting.specs.declared.how.How.TheVariants.{Internal, Send, Receive}
use Rattle.pz_tree_acting.specs.devices.Begun.{ActsSo, Opens}
use Rattle.pz_part_actions.specs.StatementPlaces.{statement_place, IsFrom}

none : ∥ ⊥ ∥₁ → ⊥
none e = ∥∥₁_elim e (λ x y. absurd x) (λ x. x)

-- ------------------------------------------------------------ how it acts

alone : (s : Step) → ∥ ActsAlone s ∥₁ → ActsAlone s
alone (skip at) e = tt
alone (delay at x) e = tt
alone (value at x) e = tt
alone (block at es) e = tt
alone (conditional at x ts other) e = tt
alone (repeated at x ts) e = tt
alone (call at method args results) e = tt
alone (bracketed at ts) e = none e
alone (guarded at x t) e = none e
alone (parallel at bs) e = none e
alone (select at bs) e = none e
alone (abort at ts t) e = none e
alone (interrupt at ts t) e = none e
alone (send at port name args after) e = none e
alone (receive at port name into condition after) e = none e
alone (assignment at x y) e = none e

acting : (t : Term) → ∥ IsActing t ∥₁ → IsActing t
acting (term.leaf s) e = alone s e
acting (term.wait left at) e = tt
acting done e = none e
acting (term.sequence t rest) e = none e
acting (term.parallel ts) e = none e
acting (term.select ts) e = none e
acting (term.guarded test at t) e = none e
acting (term.frame number inputs results t) e = none e
acting (term.abort t u) e = none e
acting (term.idle t u again) e = none e
acting (term.handling t u again) e = none e

sending_leaf : (s : Step) → ∥ IsSend (term.leaf s) ∥₁ → IsSend (term.leaf s)
sending_leaf (send at port name args after) e = tt
sending_leaf (skip at) e = none e
sending_leaf (delay at x) e = none e
sending_leaf (value at x) e = none e
sending_leaf (block at es) e = none e
sending_leaf (conditional at x ts other) e = none e
sending_leaf (repeated at x ts) e = none e
sending_leaf (call at method args results) e = none e
sending_leaf (bracketed at ts) e = none e
sending_leaf (guarded at x t) e = none e
sending_leaf (parallel at bs) e = none e
sending_leaf (select at bs) e = none e
sending_leaf (abort at ts t) e = none e
sending_leaf (interrupt at ts t) e = none e
sending_leaf (receive at port name into condition after) e = none e
sending_leaf (assignment at x y) e = none e

sending : (t : Term) → ∥ IsSend t ∥₁ → IsSend t
sending (term.leaf s) e = sending_leaf s e
sending (term.wait left at) e = none e
sending done e = none e
sending (term.sequence t rest) e = none e
sending (term.parallel ts) e = none e
sending (term.select ts) e = none e
sending (term.guarded test at t) e = none e
sending (term.frame number inputs results t) e = none e
sending (term.abort t u) e = none e
sending (term.idle t u again) e = none e
sending (term.handling t u again) e = none e

receiving_leaf : (s : Step) → ∥ IsReceive (term.leaf s) ∥₁ → IsReceive (term.leaf s)
receiving_leaf (receive at port name into condition after) e = tt
receiving_leaf (skip at) e = none e
receiving_leaf (delay at x) e = none e
receiving_leaf (value at x) e = none e
receiving_leaf (block at es) e = none e
receiving_leaf (conditional at x ts other) e = none e
receiving_leaf (repeated at x ts) e = none e
receiving_leaf (call at method args results) e = none e
receiving_leaf (bracketed at ts) e = none e
receiving_leaf (guarded at x t) e = none e
receiving_leaf (parallel at bs) e = none e
receiving_leaf (select at bs) e = none e
receiving_leaf (abort at ts t) e = none e
receiving_leaf (interrupt at ts t) e = none e
receiving_leaf (send at port name args after) e = none e
receiving_leaf (assignment at x y) e = none e

receiving : (t : Term) → ∥ IsReceive t ∥₁ → IsReceive t
receiving (term.leaf s) e = receiving_leaf s e
receiving (term.wait left at) e = none e
receiving done e = none e
receiving (term.sequence t rest) e = none e
receiving (term.parallel ts) e = none e
receiving (term.select ts) e = none e
receiving (term.guarded test at t) e = none e
receiving (term.frame number inputs results t) e = none e
receiving (term.abort t u) e = none e
receiving (term.idle t u again) e = none e
receiving (term.handling t u again) e = none e

pub acts_merely : (how : How) (t : Term) → ∥ ActsSo how t ∥₁ → ActsSo how t
acts_merely Internal t e = acting t e
acts_merely Send t e = sending t e
acts_merely (Receive taken) t e = receiving t e

-- ------------------------------------------------------------ where its statement stands

pub place_merely : (t : Term) → ∥ ((pos : Pos) × IsFrom pos t) ∥₁ → (pos : Pos) × IsFrom pos t
place_merely (term.leaf s) e = (statement_place s, refl)
place_merely (term.wait left at) e = (at, refl)
place_merely done e = absurd (none (∥∥₁_map e (λ x. x.1)))
place_merely (term.sequence t rest) e = absurd (none (∥∥₁_map e (λ x. x.1)))
place_merely (term.parallel ts) e = absurd (none (∥∥₁_map e (λ x. x.1)))
place_merely (term.select ts) e = absurd (none (∥∥₁_map e (λ x. x.1)))
place_merely (term.guarded test at t) e = absurd (none (∥∥₁_map e (λ x. x.1)))
place_merely (term.frame number inputs results t) e = absurd (none (∥∥₁_map e (λ x. x.1)))
place_merely (term.abort t u) e = absurd (none (∥∥₁_map e (λ x. x.1)))
place_merely (term.idle t u again) e = absurd (none (∥∥₁_map e (λ x. x.1)))
place_merely (term.handling t u again) e = absurd (none (∥∥₁_map e (λ x. x.1)))

-- ------------------------------------------------------------ that its delays are short

mutual
  short : (t : Term) → ∥ IsShort t ∥₁ → IsShort t
  short done e = tt
  short (term.leaf s) e = tt
  short (term.wait left at) e = ∥∥₁_elim e le_prop (λ x. x)
  short (term.sequence t rest) e = short t e
  short (term.parallel ts) e = all_short ts e
  short (term.select ts) e = all_short ts e
  short (term.guarded test at t) e = short t e
  short (term.frame number inputs results t) e = short t e
  short (term.abort t u) e = (short t (∥∥₁_map e (λ x. x.0)), short u (∥∥₁_map e (λ x. x.1)))
  short (term.idle t u again) e = (short t (∥∥₁_map e (λ x. x.0)), short u (∥∥₁_map e (λ x. x.1)))
  short (term.handling t u again) e = (short t (∥∥₁_map e (λ x. x.0)), short u (∥∥₁_map e (λ x. x.1)))

  all_short : (ts : Terms) → ∥ AreShort ts ∥₁ → AreShort ts
  all_short no_terms e = tt
  all_short (and t ts) e = (short t (∥∥₁_map e (λ x. x.0)), all_short ts (∥∥₁_map e (λ x. x.1)))

pub short_merely : (r : Result Begun Trouble) → ∥ Rattle.std.specs.Prelude.IfOk r (λ b. IsShort (term_view b.part)) ∥₁ → Rattle.std.specs.Prelude.IfOk r (λ b. IsShort (term_view b.part))
short_merely (Ok b) e = short (term_view b.part) e
short_merely (Err t) e = tt

pub room_merely : (c : ℕ) → ∥ HasRoom c ∥₁ → HasRoom c
room_merely c e = ∥∥₁_elim e le_prop (λ x. x)

-- ------------------------------------------------------------ which frames have opened

opened : (e : Edition) (stand before after : ℕ) → ∥ HaveOpened e stand before after ∥₁ → HaveOpened e stand before after
opened One stand before after h = ∥∥₁_elim h (ℕ_set _ _) (λ x. x)
opened Two stand before after h = ∥∥₁_elim h le_prop (λ x. x)

pub opens_merely : (e : Edition) (old new : StateView) (r : Result Begun Trouble) → ∥ Opens e old new r ∥₁ → Opens e old new r
opens_merely e old new (Ok b) h = λ n. opened e (times n (term_view b.part)) (open_as n old) (open_as n new) (∥∥₁_map h (λ (x : (n : ℕ) → HaveOpened e (times n (term_view b.part)) (open_as n old) (open_as n new)). x n))
opens_merely e old new (Err t) h = tt

-- ------------------------------------------------------------ which mark is the last

abbrev Shows : ℕ → Option ℕ → Type 0
Shows n None = ⊥
Shows n (Some k) = k ≡ n

shows_is : (n : ℕ) (o : Option ℕ) → ∥ Shows n o ∥₁ → o ≡ Some n
shows_is n None e = absurd (none e)
shows_is n (Some k) e = ap Some (∥∥₁_elim e (ℕ_set k n) (λ x. x))

is_shown : (n : ℕ) (o : Option ℕ) → o ≡ Some n → Shows n o
is_shown n None e = cc
is_shown n (Some k) e = cc

pub latest_merely : (s : Seen) (point : ℕ) → ∥ IsLatest s point ∥₁ → IsLatest s point
latest_merely s point e = shows_is point (point_of_first s.marks) (∥∥₁_map e (λ (x : IsLatest s point). is_shown point (point_of_first s.marks) x))
