-- What the nodes of the code stand for.
use Rattle.std.specs.Prelude.{ℕ, Option, Some, None}
use Rattle.pz_classes_code.specs.CodeView as code
use Rattle.pz_classes_code.specs.StepView as step
use Rattle.pz_nodes_shapes.specs.Rose.{Rose, Roses, none, gone, more}
use Rattle.pz_nodes_shapes.specs.Seen.{seen_shape, seen_shapes}
use Rattle.pz_rules.specs.Terms.{Term, Terms, no_terms, and}
use Rattle.pz_rules.specs.Terms as term
use Rattle.pz_tree_standing.specs.Heads as heads
use Rattle.pz_tree_standing.specs.Standing.{term_of}
use Rattle.pz_tree_nodes.specs.declared.node.Head.{Head}
use Rattle.pz_tree_nodes.specs.declared.node.Head.TheVariants as kind
use Rattle.pz_tree_nodes.specs.declared.node.What.{What}

abbrev pub head_view : Head → heads.Head
head_view (kind.Leaf s) = heads.leaf (step.view s)
head_view (kind.Wait due pos) = heads.wait due pos
head_view (kind.Seq rest) = heads.sequence (step.sequence_view rest)
head_view kind.Par = heads.parallel
head_view kind.Sel = heads.select
head_view (kind.Guard test pos shift) = heads.guarded (code.view test) pos shift
head_view (kind.Frame frame inputs results) = heads.frame frame.0 inputs results
head_view kind.Abort = heads.abort
head_view (kind.Idle again shift) = heads.idle (step.view again) shift
head_view (kind.Handling again shift) = heads.handling (step.view again) shift
head_view (kind.Shifted shift) = heads.shifted shift

abbrev pub what_view : What → heads.What
what_view w = record { head = head_view w.head; kept = w.kept.summary }

-- all that stands under a key, as it lies in the map
abbrev pub Plant : Type 0
Plant = Rose What

abbrev pub Plants : Type 0
Plants = Roses What

-- and its shape, of which it is said what it stands for
abbrev pub shape_of : Plant → heads.Shape
shape_of p = seen_shape what_view p

abbrev pub shapes_of : Plants → heads.Shapes
shapes_of ps = seen_shapes what_view ps

-- the term that it stands for, where its clock shows c
abbrev pub term_in : ℕ → Plant → Term
term_in c p = term_of c (shape_of p)

abbrev pub term_in_option : ℕ → Option Plant → Term
term_in_option c None = term.done
term_in_option c (Some p) = term_in c p

-- of plants whose clocks all show c
abbrev pub terms_in : ℕ → Plants → Terms
terms_in c none = no_terms
terms_in c (gone ps) = and term.done (terms_in c ps)
terms_in c (more p ps) = and (term_in c p) (terms_in c ps)
