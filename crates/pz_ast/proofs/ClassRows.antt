-- Texts of classes, clusters and models, written by hand from the grammar, and the nesting of two models.
use Rattle.std.proofs.Common.{◌≡◌, refl, true, false, List, [], ◌∷◌, pos, Some, None}
use Rattle.pz_syntax.specs.declared.tokens.Symbol.TheVariants as s
use Rattle.pz_syntax.specs.declared.tokens.Keyword.TheVariants as k
use Rattle.pz_syntax.specs.declared.exprs.Literal.TheVariants as lit
use Rattle.pz_syntax.specs.declared.classes.VarGroup.{VarGroup}
use Rattle.pz_syntax.specs.declared.clusters.Arg.TheVariants.{Plain, Negated, Parameter}
use Rattle.pz_syntax.specs.declared.clusters.ChannelEnd.TheVariants.{Inner, Outer}
use Rattle.pz_syntax.specs.Marks.{symbol, keyword, word, head, selector_head}
use Rattle.pz_syntax.specs.ExpressionErasure.{origin}
use Rattle.pz_syntax.specs.Statements.{skip, no_statements, then}
use Rattle.pz_syntax.specs.ClassText.{data_method_text, data_class_text, process_class_text, process_method_text}
use Rattle.pz_syntax.specs.ModelText.{cluster_class_text, system_text}
use Rattle.pz_ast.proofs.RowWords.{a, b, m, p, x, y, T, P, init, number, var, one, two}

abbrev variables : List VarGroup
variables = record { names = x ∷ y ∷ []; kind = T } ∷ record { names = a ∷ []; kind = P } ∷ []

abbrev locals : List VarGroup
locals = record { names = b ∷ []; kind = T } ∷ []

-- a : T x
plain_method : data_method_text (record { name = a; inputs = None; result = T; locals = None; body = one (var x) }) ≡ head a ∷ symbol s.Colon ∷ word T ∷ word x ∷ []
plain_method = refl

-- init(x, y : T, a : P) : T |b : T| x; y
full_method : data_method_text (record { name = init; inputs = Some variables; result = T; locals = Some locals; body = two (var x) (var y) }) ≡ selector_head init ∷ symbol s.LeftParen ∷ word x ∷ symbol s.Comma ∷ head y ∷ symbol s.Colon ∷ word T ∷ symbol s.Comma ∷ head a ∷ symbol s.Colon ∷ word P ∷ symbol s.RightParen ∷ symbol s.Colon ∷ word T ∷ symbol s.Bar ∷ head b ∷ symbol s.Colon ∷ word T ∷ symbol s.Bar ∷ word x ∷ symbol s.Semicolon ∷ word y ∷ []
full_method = refl

-- data class P
bare_data : data_class_text (record { name = P; parent = None; variables = None; methods = None }) ≡ keyword k.Data ∷ keyword k.Class ∷ word P ∷ []
bare_data = refl

-- data class P extends T variables b : T methods a() : T x m : T x
full_data : data_class_text (record { name = P; parent = Some T; variables = Some locals; methods = Some (record { name = a; inputs = Some []; result = T; locals = None; body = one (var x) } ∷ record { name = m; inputs = None; result = T; locals = None; body = one (var x) } ∷ []) }) ≡ keyword k.Data ∷ keyword k.Class ∷ word P ∷ keyword k.Extends ∷ word T ∷ keyword k.Variables ∷ head b ∷ symbol s.Colon ∷ word T ∷ keyword k.Methods ∷ head a ∷ symbol s.LeftParen ∷ symbol s.RightParen ∷ symbol s.Colon ∷ word T ∷ word x ∷ head m ∷ symbol s.Colon ∷ word T ∷ word x ∷ []
full_data = refl

-- data class P variables methods
empty_data : data_class_text (record { name = P; parent = None; variables = Some []; methods = Some [] }) ≡ keyword k.Data ∷ keyword k.Class ∷ word P ∷ keyword k.Variables ∷ keyword k.Methods ∷ []
empty_data = refl

-- process class P
bare_process : process_class_text (record { name = P; parameters = None; parent = None; ports = None; messages = None; variables = None; start = None; methods = None }) ≡ keyword k.Process ∷ keyword k.Class ∷ word P ∷ []
bare_process = refl

-- process class P(b : T) extends T ports a, b messages p!m, p?m(T, P) variables b : T init a(x)() methods
full_process : process_class_text (record { name = P; parameters = Some locals; parent = Some T; ports = Some (a ∷ b ∷ []); messages = Some (record { port = p; out = true; name = m; types = None } ∷ record { port = p; out = false; name = m; types = Some (T ∷ P ∷ []) } ∷ []); variables = Some locals; start = Some (record { method = a; args = one (var x) }); methods = Some [] }) ≡ keyword k.Process ∷ keyword k.Class ∷ word P ∷ symbol s.LeftParen ∷ head b ∷ symbol s.Colon ∷ word T ∷ symbol s.RightParen ∷ keyword k.Extends ∷ word T ∷ keyword k.Ports ∷ word a ∷ symbol s.Comma ∷ word b ∷ keyword k.Messages ∷ word p ∷ symbol s.Bang ∷ word m ∷ symbol s.Comma ∷ word p ∷ symbol s.Query ∷ word m ∷ symbol s.LeftParen ∷ word T ∷ symbol s.Comma ∷ word P ∷ symbol s.RightParen ∷ keyword k.Variables ∷ head b ∷ symbol s.Colon ∷ word T ∷ keyword k.Init ∷ head a ∷ symbol s.LeftParen ∷ word x ∷ symbol s.RightParen ∷ symbol s.LeftParen ∷ symbol s.RightParen ∷ keyword k.Methods ∷ []
full_process = refl

-- a(b : T)() |b : T| skip
full_process_method : process_method_text (record { name = a; inputs = locals; outputs = []; locals = Some locals; body = then (skip origin) no_statements }) ≡ head a ∷ symbol s.LeftParen ∷ head b ∷ symbol s.Colon ∷ word T ∷ symbol s.RightParen ∷ symbol s.LeftParen ∷ symbol s.RightParen ∷ symbol s.Bar ∷ head b ∷ symbol s.Colon ∷ word T ∷ symbol s.Bar ∷ keyword k.Skip ∷ []
full_process_method = refl

-- cluster class P() ports a instances p : T m : P(x := 1, y := -1, a := b) channels {p.a, b} {b}
full_cluster : cluster_class_text (record { name = P; parameters = Some []; ports = Some (a ∷ []); instances = Some (record { name = p; class = T; given = None } ∷ record { name = m; class = P; given = Some (record { name = x; arg = Plain (lit.Int (pos 1)) origin } ∷ record { name = y; arg = Negated (pos 1) origin } ∷ record { name = a; arg = Parameter b } ∷ []) } ∷ []); channels = Some (record { pos = origin; ends = Inner p a ∷ Outer b ∷ [] } ∷ record { pos = origin; ends = Outer b ∷ [] } ∷ []) }) ≡ keyword k.Cluster ∷ keyword k.Class ∷ word P ∷ symbol s.LeftParen ∷ symbol s.RightParen ∷ keyword k.Ports ∷ word a ∷ keyword k.Instances ∷ head p ∷ symbol s.Colon ∷ word T ∷ head m ∷ symbol s.Colon ∷ word P ∷ symbol s.LeftParen ∷ word x ∷ symbol s.Assign ∷ number (pos 1) ∷ symbol s.Comma ∷ word y ∷ symbol s.Assign ∷ symbol s.Minus ∷ number (pos 1) ∷ symbol s.Comma ∷ word a ∷ symbol s.Assign ∷ word b ∷ symbol s.RightParen ∷ keyword k.Channels ∷ symbol s.LeftBrace ∷ word p ∷ symbol s.Dot ∷ word a ∷ symbol s.Comma ∷ word b ∷ symbol s.RightBrace ∷ symbol s.LeftBrace ∷ word b ∷ symbol s.RightBrace ∷ []
full_cluster = refl

-- cluster class P
bare_cluster : cluster_class_text (record { name = P; parameters = None; ports = None; instances = None; channels = None }) ≡ keyword k.Cluster ∷ keyword k.Class ∷ word P ∷ []
bare_cluster = refl

-- system
bare_system : system_text (record { pos = origin; instances = None; channels = None }) ≡ keyword k.System ∷ []
bare_system = refl

-- system instances p : P() channels
small_system : system_text (record { pos = origin; instances = Some (record { name = p; class = P; given = Some [] } ∷ []); channels = Some [] }) ≡ keyword k.System ∷ keyword k.Instances ∷ head p ∷ symbol s.Colon ∷ word P ∷ symbol s.LeftParen ∷ symbol s.RightParen ∷ keyword k.Channels ∷ []
small_system = refl
