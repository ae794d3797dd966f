-- Measures of statements that open: how many statements stand there, and in the bodies that open with
-- them, each as often as it opens. A call that opens is heavier than the body of its method.
use Rattle.std.specs.Prelude.{ℕ, zero, suc, ◌+◌, ◌<◌, Option, Some, None}
use Rattle.std.specs.List.{sum_by}
use Rattle.pz_bind_rules.specs.pz_syntax.declared.tokens.Pos.{Pos}
use Rattle.pz_bind_rules.specs.pz_syntax.declared.names.Id.{Id}
use Rattle.pz_bind_rules.specs.pz_syntax.Statements.{Branches}
use Rattle.pz_bind_rules.specs.pz_value.declared.value.ClassId.{ClassId}
use Rattle.pz_bind_rules.specs.pz_classes_code.declared.slot.Slot.{Slot}
use Rattle.pz_bind_rules.specs.pz_classes_rules.Bodies.{BodyTree, data_body, process_body}
use Rattle.pz_classes_beginnings.specs.Beginning.{begun, begun_all, begun_each, statements_in, statements_in_all, statements_in_each}
use Rattle.pz_rules.specs.declared.limits.Edition.{Edition}
use Rattle.pz_rules.specs.declared.limits.Edition.TheVariants.{One, Two}
use Rattle.pz_rules.specs.Terms.{Step, Steps}
use Rattle.pz_rules.specs.Settings.{Home}
use Rattle.pz_rules.specs.Opening.{called_body, depth_of}
use Rattle.pz_rules.specs.CallLaws.{plain_call, OpensCalls, IsCalled}

-- of a body, where each call with which it begins weighs so much
abbrev pub body_weight : Option BodyTree → (Id → ℕ) → ℕ
body_weight (Some (process_body locals body)) calls = statements_in_all body + sum_by calls (begun_all body)
body_weight (Some (data_body locals body)) calls = 0
body_weight None calls = 0

-- of what a call opens as, followed so many methods deep
abbrev pub weight_to : Home → ℕ → Id → ℕ
weight_to h zero method = 0
weight_to h (suc depth) method = body_weight (called_body h method) (weight_to h depth)

abbrev pub weight_in : Edition → Home → Id → ℕ
weight_in One h method = 0
weight_in Two h method = weight_to h (depth_of h.model) method

abbrev pub called_weight : Home → Id → ℕ
called_weight h = weight_in h.edition h

abbrev pub weight : Home → Step → ℕ
weight h r = statements_in r + sum_by (called_weight h) (begun r)

abbrev pub weight_all : Home → Steps → ℕ
weight_all h rs = statements_in_all rs + sum_by (called_weight h) (begun_all rs)

abbrev pub weight_each : Home → Branches Slot ClassId ℕ → ℕ
weight_each h bs = statements_in_each bs + sum_by (called_weight h) (begun_each bs)

abbrev pub CallsAreHeavier : Type 0
CallsAreHeavier = (h : Home) (pos : Pos) (method : Id) (locals : ℕ) (body : Steps) → OpensCalls h → IsCalled h method locals body
    → weight_all h body < weight h (plain_call pos method)
