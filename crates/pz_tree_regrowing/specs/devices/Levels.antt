-- What is done on one level.
use Rattle.std.specs.Prelude.{◌≡◌, ◌≤◌, ◌<◌, ◌+◌, ◌-◌, ◌*◌, ℕ, suc, Bool, true, false, List, [], ◌∷◌, ◌++◌, length, slice_index_or, slice_set, Option, Some, None}
use Rattle.pz_clock.specs.Shifts.{ShiftView, ShiftFits, behind_since}
use Rattle.pz_nodes_shapes.specs.declared.node.Node.{Node}
use Rattle.pz_nodes_shapes.specs.Rose.{none, gone, more, Map, root, roots, pick, joined, with_kid, width, sizes, Stands}
use Rattle.pz_nodes_shapes.specs.Change.{OnlyAt, Holds, BecomesOption}
use Rattle.pz_rules.specs.pz_state.Marks.{Seen}
use Rattle.pz_term_around.specs.pz_part_opening.Bare.{is_bare}
use Rattle.pz_rules.specs.Terms.{Step, Term, done, Terms, frames_in_all, term_at}
use Rattle.pz_rules.specs.Settings.{Home}
use Rattle.pz_rules.specs.Leaving.{replaced, around}
use Rattle.pz_rules.specs.Places.{MayActIn}
use Rattle.pz_rules.specs.Becoming.{Became}
use Rattle.pz_tree_nodes.specs.pz_tree_standing.FrameCounts.{lost, gained}
use Rattle.pz_tree_nodes.specs.pz_tree_standing.Heads as heads
use Rattle.pz_tree_nodes.specs.pz_tree_standing.Heads.{inner_clock, inner_frame, formed}
use Rattle.pz_tree_nodes.specs.pz_tree_standing.Standing.{terms_of, HeadFits}
use Rattle.pz_tree_nodes.specs.pz_tree_standing.Whole.{IsNoShift, HasParts, Whole, AreWhole}
use Rattle.pz_tree_nodes.specs.declared.kept.Kept.{Kept}
use Rattle.pz_tree_nodes.specs.declared.node.Head.{Head}
use Rattle.pz_tree_nodes.specs.declared.node.Head.TheVariants as kind
use Rattle.pz_tree_nodes.specs.declared.node.What.{What}
use Rattle.pz_tree_nodes.specs.View.{Plant, Plants, head_view, shape_of, shapes_of, term_in, term_in_option}
use Rattle.pz_tree_nodes.specs.Tended.{Tended, TendedOption}
use Rattle.pz_tree_nodes.specs.Planting.{root_of}
use Rattle.pz_tree_regrowing.specs.Costs.{beside, made, dropped}
use Rattle.pz_rules.specs.Short.{IsShort}
use Rattle.pz_tree_nodes.specs.pz_tree_standing.Soon.{HasRoom}
use Rattle.pz_tree_regrowing.specs.Regrowing.{Work, InTime, at_work}
use Rattle.pz_tree_regrowing.specs.devices.Keeping.{kept_in, kept_behind}

-- children of a node of this form, of which the first has number i, each tended by its own clock
abbrev pub KidsTended : ℕ → heads.Head → ℕ → ℕ → Plants → Type 0
KidsTended f h c i none = Unit {0}
KidsTended f h c i (gone ps) = KidsTended f h c (suc i) ps
KidsTended f h c i (more p ps) = Tended f (inner_clock h i c) p × KidsTended f h c (suc i) ps

-- the terms that the children stand for
abbrev pub kid_terms : heads.Head → ℕ → Plants → Terms
kid_terms h c ps = terms_of h c 0 (shapes_of ps)

-- a node of this form is in hand, over these children
pub record InHand (m0 m : Map What) (was : ℕ → Bool) (f c k : ℕ) (h : heads.Head) (ps : Plants) : Type 0 where
  pub holds : Holds m0 m was k ps
  pub parts : HasParts h (shapes_of ps)
  pub fits : HeadFits h c
  pub tended : KidsTended (inner_frame h f) h c 0 ps
  pub bare : IsNoShift h

-- the whole before: child i was this
abbrev pub before : heads.Head → ℕ → Plants → ℕ → Term → Term
before h c ps i t = formed h c (replaced (kid_terms h c ps) i t)

-- what it has become
abbrev pub after : heads.Head → ℕ → Plants → ℕ → Term
after h c ps i = term_at (kid_terms h c ps) i

-- child i, which was t, has become another: what that makes of the whole
pub record Finished (home : Home) (f c : ℕ) (m0 : Map What) (was : ℕ → Bool) (h : heads.Head) (ps : Plants) (i : ℕ) (t : Term) (out : Option ℕ) (a b : Work) : Type 0 where
  pub plant : Option Plant
  pub under : root_of plant ≡ out
  pub becomes : BecomesOption m0 b.map was plant
  pub tended : TendedOption f c plant
  pub means : Became (around home f a.state.held (before h c ps i t) i (after h c ps i)) (term_in_option c plant) a.state b.state
  pub lost : b.lost ≡ a.lost ++ lost (before h c ps i t) i (after h c ps i)
  pub gained : b.gained ≡ a.gained ++ gained home a.state.held (before h c ps i t) i (after h c ps i)
  pub ticks : b.steps ≤ a.steps + (4 + beside (before h c ps i t) i + made home a.state.held (before h c ps i t) i (after h c ps i) + 2 * dropped (before h c ps i t) i (after h c ps i))

abbrev pub FinishRule : Home → ℕ → ℕ → ℕ → heads.Head → List (Option ℕ) → ℕ → Option ℕ → Work → Work → Type 0
FinishRule home f c k h keys i out a b =
    (m0 : Map What) (was : ℕ → Bool) (ps : Plants) (t : Term)
    → InHand m0 a.map was f c k h ps → roots ps ≡ keys
    → i < width ps → MayActIn (before h c ps i t) i
    → InTime c (before h c ps i t) (after h c ps i)
    → Finished home f c m0 was h ps i t out a b

-- ------------------------------------------------------------ nodes read and written

-- a node is there
abbrev pub there : Option ℕ → ℕ
there None = 0
there (Some k) = 1

abbrev pub all_there : List (Option ℕ) → ℕ
all_there [] = 0
all_there (k ∷ ks) = there k + all_there ks

-- this node stands under the key
pub record IsWritten (m n : Map What) (k : ℕ) (head : Head) (keys : List (Option ℕ)) (kept : Kept) : Type 0 where
  pub written : n k ≡ Some (record { what = record { head = head; kept = kept }; kids = keys })
  pub others : OnlyAt m n k

-- nothing does
pub record IsFree (m n : Map What) (k : ℕ) : Type 0 where
  pub vacant : n k ≡ None
  pub others : OnlyAt m n k

-- the node was taken in hand, with another child of this number
pub record IsTaken (m n : Map What) (k i : ℕ) (left : Option ℕ) (head : Head) (keys : List (Option ℕ)) : Type 0 where
  pub was : Node What
  pub stood : m k ≡ Some was
  pub same : head ≡ was.what.head
  pub child : i < length was.kids → keys ≡ slice_set was.kids i left
  pub hollow : n k ≡ None → ⊥
  pub others : OnlyAt m n k

-- where a child of the node under a key is found
pub record IsChild (was : Node What) (f c i : ℕ) (below : Option ℕ) (frame clock : ℕ) : Type 0 where
  pub key : below ≡ slice_index_or was.kids i None
  pub framed : frame ≡ inner_frame (head_view was.what.head) f
  pub clocked : HeadFits (head_view was.what.head) c → clock ≡ inner_clock (head_view was.what.head) i c

abbrev pub IsChildOf : Map What → Option ℕ → ℕ → ℕ → ℕ → Option ℕ → ℕ → ℕ → Type 0
IsChildOf m None f c i below frame clock = Unit {0}
IsChildOf m (Some k) f c i below frame clock = (was : Node What) → m k ≡ Some was → IsChild was f c i below frame clock

-- the child of this number stands in the place of the node, and the others are gone
pub record LeftAlone (m0 n : Map What) (was : ℕ → Bool) (ps : Plants) (i : ℕ) (out : Option ℕ) (lost found : List ℕ) (old new : ℕ) : Type 0 where
  pub under : root_of (pick ps i) ≡ out
  pub becomes : BecomesOption m0 n was (pick ps i)
  pub frames : AreWhole (shapes_of ps) → (h : heads.Head) (c : ℕ) → found ≡ lost ++ frames_in_all (replaced (kid_terms h c ps) i done)
  pub ticks : new ≡ old + (sizes (with_kid ps i None) + 1)

abbrev pub AloneRule : Map What → Map What → ℕ → List (Option ℕ) → ℕ → Option ℕ → List ℕ → List ℕ → ℕ → ℕ → Type 0
AloneRule m n k keys i out lost found old new =
    (m0 : Map What) (was : ℕ → Bool) (ps : Plants)
    → Holds m0 m was k ps → roots ps ≡ keys
    → LeftAlone m0 n was ps i out lost found old new

-- ------------------------------------------------------------ shift nodes

pub record IsShiftAt (m : Map What) (k c by : ℕ) (below : Option ℕ) : Type 0 where
  pub was : Node What
  pub stands : m k ≡ Some was
  pub shift : ShiftView
  pub is : was.what.head ≡ kind.Shifted shift
  pub behind : ShiftFits shift c → by ≡ behind_since shift.behind shift.since c
  pub child : below ≡ slice_index_or was.kids 0 None

abbrev pub IsNoShiftAt : Map What → ℕ → Type 0
IsNoShiftAt m k = (was : Node What) → m k ≡ Some was → IsNoShift (head_view was.what.head)

-- a clock that runs, and is behind by so much
abbrev pub runs_behind : ℕ → ShiftView
runs_behind by = record { behind = by; since = None }

-- a shift node stands over what is under this key
pub record IsPutOver (m n : Map What) (k behind : ℕ) (below out : Option ℕ) : Type 0 where
  pub under : out ≡ Some k
  pub put : (m k ≡ None → ⊥) → IsWritten m n k (kind.Shifted (runs_behind behind)) (below ∷ []) (kept_behind behind (kept_in m below))

-- what was behind a clock that is behind by so much stands for the same, seen from the clock around it
pub record SeenFrom (m0 n : Map What) (was : ℕ → Bool) (f c behind : ℕ) (x : Option Plant) (out : Option ℕ) (old new : ℕ) : Type 0 where
  pub plant : Option Plant
  pub under : root_of plant ≡ out
  pub becomes : BecomesOption m0 n was plant
  pub tended : TendedOption f c plant
  pub means : term_in_option c plant ≡ term_in_option (c - behind) x
  pub ticks : new ≤ old + 4

abbrev pub ShiftRule : Map What → Map What → ℕ → ℕ → ℕ → Option ℕ → Option ℕ → ℕ → ℕ → Type 0
ShiftRule m n k behind c left out old new =
    (m0 : Map What) (was : ℕ → Bool) (f : ℕ) (x : Option Plant)
    → Holds m0 m was k (joined x none) → root_of x ≡ left
    → behind ≤ c → TendedOption f (c - behind) x
    → HasRoom c → IsShort (term_in_option (c - behind) x)
    → SeenFrom m0 n was f c behind x out old new

-- ------------------------------------------------------------ forms

-- where neither the state nor the frames that were gathered, lost or opened, have changed
abbrev pub StillRule : ℕ → ℕ → heads.Head → List (Option ℕ) → ℕ → Option ℕ → Map What → Map What → ℕ → ℕ → Type 0
StillRule c k h keys i out m n old new =
    (home : Home) (f : ℕ) (s : Seen) (gathered fresh : List ℕ)
    → FinishRule home f c k h keys i out (at_work m s gathered fresh old) (at_work n s gathered fresh new)

-- where neither the state nor the frames that have opened have
abbrev pub LosingRule : ℕ → ℕ → heads.Head → List (Option ℕ) → ℕ → Option ℕ → Map What → Map What → List ℕ → List ℕ → ℕ → ℕ → Type 0
LosingRule c k h keys i out m n lost found old new =
    (home : Home) (f : ℕ) (s : Seen) (fresh : List ℕ)
    → FinishRule home f c k h keys i out (at_work m s lost fresh old) (at_work n s found fresh new)

-- where the frames that stand no longer have not
abbrev pub ChangingRule : Home → ℕ → ℕ → heads.Head → List (Option ℕ) → ℕ → Option ℕ → Map What → Map What → Seen → Seen → List ℕ → List ℕ → ℕ → ℕ → Type 0
ChangingRule home c k h keys i out m n s t fresh grown old new =
    (f : ℕ) (gathered : List ℕ)
    → FinishRule home f c k h keys i out (at_work m s gathered fresh old) (at_work n t gathered grown new)

-- whether what stands under a key stands for a frame without outputs
abbrev pub BareRule : Map What → ℕ → Bool → Type 0
BareRule m k bare = (c : ℕ) (p : Plant) → Stands m p → root p ≡ k → Whole (shape_of p) → bare ≡ is_bare (term_in c p)

abbrev pub is_bare_head : heads.Head → Bool
is_bare_head (heads.frame number inputs []) = true
is_bare_head h = false

abbrev pub is_bare_of : Option (Node What) → Bool
is_bare_of None = false
is_bare_of (Some n) = is_bare_head (head_view n.what.head)

-- whether a frame without outputs is under the key
abbrev pub is_bare_node : Map What → Option ℕ → Bool
is_bare_node m None = false
is_bare_node m (Some k) = is_bare_of (m k)

abbrev pub are_gone : List (Option ℕ) → Bool
are_gone [] = true
are_gone (None ∷ ks) = are_gone ks
are_gone (Some k ∷ ks) = false

-- an interrupt, of which the first part runs or stands still
abbrev pub interrupt : Bool → Step → ShiftView → heads.Head
interrupt true again s = heads.idle again s
interrupt false again s = heads.handling again s

-- the second part has acted and is done
abbrev pub ResumeRule : Home → ℕ → ℕ → Step → ShiftView → Option ℕ → Option ℕ → Map What → Map What → Seen → Seen → List ℕ → List ℕ → ℕ → ℕ → Type 0
ResumeRule home c k again shift first out m n s t fresh grown old new =
    (runs : Bool) → ChangingRule home c k (interrupt runs again shift) (first ∷ None ∷ []) 1 out m n s t fresh grown old new

-- it has acted and is not
abbrev pub SuspendRule : ℕ → ℕ → Step → ShiftView → List (Option ℕ) → Option ℕ → Map What → Map What → ℕ → ℕ → Type 0
SuspendRule c k again shift keys out m n old new =
    (slice_index_or keys 1 None ≡ None → ⊥)
    → (runs : Bool) → StillRule c k (interrupt runs again shift) keys 1 out m n old new

-- it has acted
abbrev pub SecondRule : Home → ℕ → ℕ → Step → ShiftView → List (Option ℕ) → Option ℕ → Map What → Map What → Seen → Seen → List ℕ → List ℕ → ℕ → ℕ → Type 0
SecondRule home c k again shift keys out m n s t fresh grown old new =
    (runs : Bool) → ChangingRule home c k (interrupt runs again shift) keys 1 out m n s t fresh grown old new
