-- A formula has the same value by the list of its operands' values as by their names.
use Rattle.std.proofs.Common.{◌≡◌, ◌+◌, ◌^◌, ◌++◌, ◌∙◌, [], ℕ, ℤ, pos, List, Bool, true, false, Option, Some, None, Result, Ok, Err, cond, nat_lt, ap, sym, refl, subst, append_assoc, append-nil}
use Rattle.box_geo.specs.declared.limits.TheConstants.{MAX_FORMULA_DEPTH}
use Rattle.fx_num.specs.declared.faults.FormulaFault.{FormulaFault}
use Rattle.fx_num.specs.declared.faults.FormulaFault.TheVariants as fault
use Rattle.formula.specs.declared.tree.Expr.{Expr}
use Rattle.formula.specs.declared.tree.Expr.TheOpen.{Expr-F}
use Rattle.formula.specs.declared.tree.Expr.TheViews.{roll-Expr}
use Rattle.formula.specs.declared.tree.Expr.TheFolds.{fold-roll-Expr, ind-Expr, map-Expr}
use Rattle.formula.specs.declared.tree.Function.{Function}
use Rattle.formula.specs.declared.tree.Operator.{Operator}
use Rattle.formula.specs.declared.tree.Sign.{Sign}
use Rattle.formula.specs.declared.arithmetic.Failure.{Failure}
use Rattle.formula.specs.declared.arithmetic.Failure.TheVariants as failure
use Rattle.formula.specs.declared.named.NamedOperand.{NamedOperand}
use Rattle.formula.specs.declared.value.EvalFault.{EvalFault}
use Rattle.formula.specs.declared.value.EvalFault.TheVariants as eval_fault
use Rattle.formula.specs.Arithmetic.{is_value, limited, operation, with_sign_of, function_value}
use Rattle.formula.specs.Asked.{Asked, answered, asked, fault_by, kept, valued_by}
use Rattle.formula.specs.ByName.{Ask, Valued, at_place, a_level_in, named_step, value_by_name, with_value, written}
use Rattle.formula.specs.Operands.{operands, operands_step}
use Rattle.formula.specs.Value.{Meaning, Outcome, and_then, inside, literal_value, operand_value, operated, value, value_alone, value_at, value_of, value_step}

-- a part has this value, and all its operands have values; `all` is what was asked for, `rest` what was asked for behind the part
record Gives (v : ℤ) (out : Outcome) (all rest : Asked) : Type 0 where
  out_is : out ≡ Ok (v, rest.values)
  fault_is : all.fault ≡ rest.fault

-- a part has this fault
record Fails (why : FormulaFault) (out : Outcome) (all : Asked) : Type 0 where
  fault : EvalFault
  out_is : out ≡ Err fault
  why_is : fault_by fault all.fault ≡ why

abbrev Same : Valued → Outcome → Asked → Asked → Type 0
Same (Ok v) out all rest = Gives v out all rest
Same (Err why) out all rest = Fails why out all

abbrev Agrees : Ask → (ℕ → Valued) → Meaning → (ℕ → List NamedOperand) → Type 0
Agrees ask named listed names =
    (depth : ℕ) (rest : List NamedOperand) → Same (named depth) (listed depth (asked ask (names depth ++ rest)).values) (asked ask (names depth ++ rest)) (asked ask rest)

-- what is the same where more was asked for before it
before : (r : Valued) (out : Outcome) (all some rest : Asked) → all.fault ≡ some.fault → Same r out some rest → Same r out all rest
before (Ok v) out all some rest e s = record { out_is = s.out_is; fault_is = e ∙ s.fault_is }
before (Err why) out all some rest e s = record { fault = s.fault; out_is = s.out_is; why_is = ap (fault_by s.fault) e ∙ s.why_is }

-- what stands at a place
placed : (place : ℕ) (r : Result ℤ Failure) (rest : Asked) → Same (at_place place r) (value_at place rest.values r) rest rest
placed place (Ok v) rest = record { out_is = refl; fault_is = refl }
placed place (Err failure.DivideByZero) rest = record { fault = eval_fault.DivideByZero place; out_is = refl; why_is = refl }
placed place (Err failure.OutOfRange) rest = record { fault = eval_fault.Range place; out_is = refl; why_is = refl }

-- what follows a value
follows_by : (r : Valued) (out : Outcome) (f : ℤ → Valued) (g : ℤ → List ℤ → Outcome) (all mid rest : Asked)
    → Same r out all mid → ((v : ℤ) → Same (f v) (g v mid.values) mid rest) → Same (with_value r f) (and_then out g) all rest
follows_by (Ok v) out f g all mid rest s next =
    subst (λ o. Same (f v) (and_then o g) all rest) (sym s.out_is) (before (f v) (g v mid.values) all mid rest s.fault_is (next v))
follows_by (Err why) out f g all mid rest s next = record { fault = s.fault; out_is = ap (λ o. and_then o g) s.out_is; why_is = s.why_is }

-- the inside of what opens a level
level_by : (c : Bool) (r : Valued) (out : Outcome) (all rest : Asked) → Same r out all rest → Same (cond c r (Err fault.TooDeep)) (cond c out (Err eval_fault.TooDeep)) all rest
level_by true r out all rest s = s
level_by false r out all rest s = record { fault = eval_fault.TooDeep; out_is = refl; why_is = refl }

kept_by : (c : Bool) (v : ℤ) → is_value v ≡ c → limited (cond c v (pos (2 ^ 62 + 1))) ≡ limited v
kept_by true v e = refl
kept_by false v e = rw e refl

pub limited-kept : (v : ℤ) → limited (kept v) ≡ limited v
limited-kept v = kept_by (is_value v) v refl

named_by : (place : ℕ) (r : Valued) (rest : Asked)
    → Same (with_value r (λ v. at_place place (limited v))) (operand_value place (answered r rest).values) (answered r rest) rest
named_by place (Ok v) rest =
    let all : Asked = answered (Ok v) rest in
    let s : Same (at_place place (limited v)) (value_at place rest.values (limited v)) all rest = before (at_place place (limited v)) (value_at place rest.values (limited v)) all rest rest refl (placed place (limited v) rest) in
    subst (λ r. Same (at_place place (limited v)) (value_at place rest.values r) all rest) (sym (limited-kept v)) s
named_by place (Err why) rest = record { fault = eval_fault.Operand; out_is = refl; why_is = refl }

number_agrees : (ask : Ask) (place : ℕ) (units : Option ℤ) → Agrees ask (λ depth. written place units) (λ depth values. literal_value place units values) (λ depth. [])
number_agrees ask place (Some v) depth rest = placed place (limited v) (asked ask rest)
number_agrees ask place None depth rest = record { fault = eval_fault.Range place; out_is = refl; why_is = refl }

abbrev Known : Ask → Expr → Type 0
Known ask tree = Agrees ask (value_by_name ask tree) (value tree) (operands tree)

call_agrees : (ask : Ask) (place : ℕ) (f : Function) (inner : Expr) → Known ask inner
    → Agrees ask (λ depth. with_value (a_level_in (value_by_name ask inner) depth) (λ v. at_place place (function_value f v)))
    (λ depth values. and_then (inside (value inner) depth values) (λ v rest. value_at place rest (function_value f v))) (λ depth. operands inner (depth + 1))
call_agrees ask place f inner h depth rest =
    let all : Asked = asked ask (operands inner (depth + 1) ++ rest) in
    let end : Asked = asked ask rest in
    let level = level_by (nat_lt depth MAX_FORMULA_DEPTH) (value_by_name ask inner (depth + 1)) (value inner (depth + 1) all.values) all end (h (depth + 1) rest) in
    follows_by (a_level_in (value_by_name ask inner) depth) (inside (value inner) depth all.values) (λ v. at_place place (function_value f v)) (λ v more. value_at place more (function_value f v)) all end end
    level (λ v. placed place (function_value f v) end)

signed_agrees : (ask : Ask) (s : Sign) (inner : Expr) → Known ask inner
    → Agrees ask (λ depth. with_value (value_by_name ask inner depth) (λ v. Ok (with_sign_of s v)))
    (λ depth values. and_then (value inner depth values) (λ v rest. Ok (with_sign_of s v, rest))) (operands inner)
signed_agrees ask s inner h depth rest =
    let all : Asked = asked ask (operands inner depth ++ rest) in
    let end : Asked = asked ask rest in
    follows_by (value_by_name ask inner depth) (value inner depth all.values) (λ v. Ok (with_sign_of s v)) (λ v more. Ok (with_sign_of s v, more)) all end end
    (h depth rest) (λ v. record { out_is = refl; fault_is = refl })

binary_agrees : (ask : Ask) (place : ℕ) (o : Operator) (left right : Expr) → Known ask left → Known ask right
    → Agrees ask (λ depth. with_value (value_by_name ask left depth) (λ a. with_value (value_by_name ask right depth) (λ b. at_place place (operation o a b))))
    (λ depth values. and_then (value left depth values) (λ a rest. operated place o a (value right depth rest))) (λ depth. operands left depth ++ operands right depth)
binary_agrees ask place o left right l r depth rest =
    let behind : List NamedOperand = operands right depth ++ rest in
    let end : Asked = asked ask rest in
    let mid : Asked = asked ask behind in
    let all : Asked = asked ask (operands left depth ++ behind) in
    let second : (a : ℤ) → Same (with_value (value_by_name ask right depth) (λ b. at_place place (operation o a b))) (operated place o a (value right depth mid.values)) mid end = λ a. follows_by (value_by_name ask right depth) (value right depth mid.values) (λ b. at_place place (operation o a b)) (λ b more. value_at place more (operation o a b)) mid end end
    (r depth rest) (λ b. placed place (operation o a b) end) in
    let whole = follows_by (value_by_name ask left depth) (value left depth all.values) (λ a. with_value (value_by_name ask right depth) (λ b. at_place place (operation o a b))) (λ a more. operated place o a (value right depth more)) all mid end
    (l depth behind) second in
    subst (λ names. Same (with_value (value_by_name ask left depth) (λ a. with_value (value_by_name ask right depth) (λ b. at_place place (operation o a b))))
    (and_then (value left depth (asked ask names).values) (λ a more. operated place o a (value right depth more))) (asked ask names) end) (sym (append_assoc (operands left depth) (operands right depth) rest)) whole

-- a layer, with what is known of its parts
layer : (ask : Ask) (y : Expr-F ((t : Expr) × Known ask t))
    → Agrees ask (named_step ask (map-Expr ((t : Expr) × Known ask t) (ℕ → Valued) (λ k. value_by_name ask k.0) y))
    (value_step (map-Expr ((t : Expr) × Known ask t) Meaning (λ k. value k.0) y)) (operands_step (map-Expr ((t : Expr) × Known ask t) (ℕ → List NamedOperand) (λ k. operands k.0) y))
layer ask (Expr-F.Number place units) = number_agrees ask place units
layer ask (Expr-F.Named place name) = λ depth rest. named_by place (ask name depth) (asked ask rest)
layer ask (Expr-F.Group k) = λ depth rest.
    let all : Asked = asked ask (operands k.0 (depth + 1) ++ rest) in
    level_by (nat_lt depth MAX_FORMULA_DEPTH) (value_by_name ask k.0 (depth + 1)) (value k.0 (depth + 1) all.values) all (asked ask rest) (k.1 (depth + 1) rest)
layer ask (Expr-F.Call place f k) = call_agrees ask place f k.0 k.1
layer ask (Expr-F.Signed s k) = signed_agrees ask s k.0 k.1
layer ask (Expr-F.Binary place o k m) = binary_agrees ask place o k.0 m.0 k.1 m.1

-- a layer of trees
rolled : (ask : Ask) (z : Expr-F Expr)
    → Agrees ask (named_step ask (map-Expr Expr (ℕ → Valued) (value_by_name ask) z)) (value_step (map-Expr Expr Meaning value z)) (operands_step (map-Expr Expr (ℕ → List NamedOperand) operands z))
    → Known ask (roll-Expr z)
rolled ask z h =
    rw (fold-roll-Expr (ℕ → Valued) (named_step ask) z, fold-roll-Expr Meaning value_step z, fold-roll-Expr (ℕ → List NamedOperand) operands_step z) h

layer_known : (ask : Ask) (y : Expr-F ((t : Expr) × Known ask t)) → Known ask (roll-Expr (map-Expr ((t : Expr) × Known ask t) Expr (λ k. k.0) y))
layer_known ask (Expr-F.Number place units) = rolled ask (Expr-F.Number place units) (layer ask (Expr-F.Number place units))
layer_known ask (Expr-F.Named place name) = rolled ask (Expr-F.Named place name) (layer ask (Expr-F.Named place name))
layer_known ask (Expr-F.Group k) = rolled ask (Expr-F.Group k.0) (layer ask (Expr-F.Group k))
layer_known ask (Expr-F.Call place f k) = rolled ask (Expr-F.Call place f k.0) (layer ask (Expr-F.Call place f k))
layer_known ask (Expr-F.Signed s k) = rolled ask (Expr-F.Signed s k.0) (layer ask (Expr-F.Signed s k))
layer_known ask (Expr-F.Binary place o k m) = rolled ask (Expr-F.Binary place o k.0 m.0) (layer ask (Expr-F.Binary place o k m))

known : (ask : Ask) (tree : Expr) → Known ask tree
known ask tree = ind-Expr (Known ask) (λ x y is. subst (λ z. Known ask (roll-Expr z)) is (layer_known ask y)) tree

valued_same : (r : Valued) (out : Outcome) (all rest : Asked) → Same r out all rest → valued_by (value_alone out) all.fault ≡ r
valued_same (Ok v) out all rest s = ap (λ o. valued_by (value_alone o) all.fault) s.out_is
valued_same (Err why) out all rest s = ap (λ o. valued_by (value_alone o) all.fault) s.out_is ∙ ap Err s.why_is

-- what operands are asked for from left to right, up to the first that has a fault, gives the value by name
pub value_by_list : (ask : Ask) (tree : Expr) (depth : ℕ)
    → valued_by (value_of tree (asked ask (operands tree depth)).values depth) (asked ask (operands tree depth)).fault ≡ value_by_name ask tree depth
value_by_list ask tree depth =
    let s = rw (append-nil (operands tree depth)) at (known ask tree depth []) in
    valued_same (value_by_name ask tree depth) (value tree depth (asked ask (operands tree depth)).values) (asked ask (operands tree depth)) (asked ask []) s
