-- A text of the grammar is read as its tree.
use Rattle.std.proofs.Common.{◌≡◌, ◌+◌, ◌<◌, ◌≤◌, ◌&&◌, cond, nat_le, nat_lt, Bool, true, false, ℕ, ℤ, Option, Some, Ok, Err, List, [], ◌∷◌, ◌++◌, length, arith, refl, sym, ap, ◌∙◌, subst, append_assoc, append-nil}
use Rattle.std.proofs.lemmas.Bool.{ne_eqb, leb-true, le-leb, lt-leb, ltb-true}
use Rattle.box_geo.specs.declared.limits.TheConstants.{MAX_FORMULA_BYTES}
use Rattle.formula.specs.declared.tree.Expr.{Expr}
use Rattle.formula.specs.declared.tree.Expr.TheVariants as expr
use Rattle.formula.specs.declared.tree.Expr.TheOpen.{Expr-F}
use Rattle.formula.specs.declared.tree.Expr.TheFolds.{fold-roll-Expr}
use Rattle.formula.specs.declared.tree.Operator.{Operator}
use Rattle.formula.specs.declared.tree.Operator.TheVariants.{Or, And, Equal, NotEqual, Less, LessEqual, Greater, GreaterEqual, Add, Subtract, Multiply, Divide, Remainder, Power}
use Rattle.formula.specs.declared.tree.Sign.{Sign}
use Rattle.formula.specs.declared.tree.Function.{Function}
use Rattle.formula.specs.declared.state.Frame.{Frame}
use Rattle.formula.specs.declared.state.Frame.TheVariants.{Group, Call, Signed, Left}
use Rattle.formula.specs.declared.state.State.TheVariants.{Needs, Called, Has}
use Rattle.formula.specs.Spelling.{Lexeme, Literal, Name, FunctionName, OperatorMark, SignMark, Opening, Closing, IsLexeme, nothing, spelling}
use Rattle.formula.specs.Words.{is_operand_name}
use Rattle.formula.specs.Grammar.{Grouping, grouping, grouping_step, IsFormula}
use Rattle.formula.specs.Fronts.{reading}
use Rattle.formula.specs.Reading.{level_of, run, ok_or, whole, is_behind_power, with_operator, joined, close, parsed}
use Rattle.formula.proofs.CloseLemmas.{first_true, second_true}
use Rattle.formula.proofs.GroupLemmas.{floor, level_bounds, run_is}
use Rattle.formula.proofs.SpellLemmas.{run_told, spells_number, spells_named, spells_group, spells_call, spells_signed, spells_binary}
use Rattle.formula.proofs.LexemeLemmas.{Heads, is_mark, is_no_equals, idle_needs, idle_called, idle_has, blanks_read, literal_reads, name_reads, function_reads, operator_reads, sign_reads, opening_reads, call_reads, closing_reads}
use Rattle.formula.proofs.GrammarLemmas.{First, Spelled, Kinds, from_front, ends_operand, mark_behind, opening_behind, starts_operand, starts_more, start_behind, every_tree}

-- how a tree of each kind binds, and what it holds
groups_number : (place : ℕ) (units : Option ℤ) → grouping (expr.Number place units) ≡ record { level = 9; holds = true }
groups_number place units = ap grouping (sym (expr.rolls-Number place units)) ∙ fold-roll-Expr Grouping grouping_step (Expr-F.Number place units)

groups_named : (place : ℕ) (name : List ℕ) → grouping (expr.Named place name) ≡ record { level = 9; holds = true }
groups_named place name = ap grouping (sym (expr.rolls-Named place name)) ∙ fold-roll-Expr Grouping grouping_step (Expr-F.Named place name)

groups_group : (inner : Expr) → grouping (expr.Group inner) ≡ record { level = 9; holds = (grouping inner).holds }
groups_group inner = ap grouping (sym (expr.rolls-Group inner)) ∙ fold-roll-Expr Grouping grouping_step (Expr-F.Group inner)

groups_call : (place : ℕ) (f : Function) (inner : Expr) → grouping (expr.Call place f inner) ≡ record { level = 9; holds = (grouping inner).holds }
groups_call place f inner = ap grouping (sym (expr.rolls-Call place f inner)) ∙ fold-roll-Expr Grouping grouping_step (Expr-F.Call place f inner)

groups_signed : (s : Sign) (inner : Expr) → grouping (expr.Signed s inner) ≡ record { level = 7; holds = (grouping inner).holds && nat_le 7 (grouping inner).level }
groups_signed s inner = ap grouping (sym (expr.rolls-Signed s inner)) ∙ fold-roll-Expr Grouping grouping_step (Expr-F.Signed s inner)

groups_binary : (place : ℕ) (o : Operator) (left right : Expr) → grouping (expr.Binary place o left right) ≡ record { level = level_of o; holds = (grouping left).holds && nat_le (level_of o) (grouping left).level && ((grouping right).holds && nat_lt (level_of o) (grouping right).level) }
groups_binary place o left right = ap grouping (sym (expr.rolls-Binary place o left right)) ∙ fold-roll-Expr Grouping grouping_step (Expr-F.Binary place o left right)

level_by : (tree : Expr) (g : Grouping) → grouping tree ≡ g → (grouping tree).level ≡ g.level
level_by tree g is = ap (λ (x : Grouping). x.level) is

holds_by : (tree : Expr) (g : Grouping) → grouping tree ≡ g → (grouping tree).holds ≡ true → g.holds ≡ true
holds_by tree g is holds = ap (λ (x : Grouping). x.holds) (sym is) ∙ holds

-- every tree binds more tightly than nothing
abbrev Binds : Expr → Type 0
Binds tree = 0 < (grouping tree).level

binds_kinds : Kinds Binds
binds_kinds = record {
  number = λ place units. omega (arith, level_by (expr.Number place units) (record { level = 9; holds = true }) (groups_number place units));
  named = λ place name. omega (arith, level_by (expr.Named place name) (record { level = 9; holds = true }) (groups_named place name));
  group = λ inner binds. omega (arith, level_by (expr.Group inner) (record { level = 9; holds = (grouping inner).holds }) (groups_group inner));
  call = λ place f inner binds. omega (arith, level_by (expr.Call place f inner) (record { level = 9; holds = (grouping inner).holds }) (groups_call place f inner));
  signed = λ s inner binds. omega (arith, ap (λ (x : Grouping). x.level) (groups_signed s inner));
  binary = λ place o left right l r. omega (arith, ap (λ (x : Grouping). x.level) (groups_binary place o left right), (level_bounds o).0);
}

some_level : (tree : Expr) → 0 < (grouping tree).level
some_level tree = every_tree Binds binds_kinds tree

-- every tree begins with what begins an operand
abbrev Starts : Expr → Type 0
Starts tree = starts_operand (spelling tree) ≡ true

starts_kinds : Kinds Starts
starts_kinds = record {
  number = λ place units. ap starts_operand (spells_number place units);
  named = λ place name. ap starts_operand (spells_named place name);
  group = λ inner starts. ap starts_operand (spells_group inner);
  call = λ place f inner starts. ap starts_operand (spells_call place f inner);
  signed = λ s inner starts. ap starts_operand (spells_signed s inner);
  binary = λ place o left right l r. ap starts_operand (spells_binary place o left right) ∙ starts_more (spelling left) (OperatorMark place o ∷ spelling right) l;
}

starts : (tree : Expr) → starts_operand (spelling tree) ≡ true
starts tree = every_tree Starts starts_kinds tree

-- what joining does where the operand binds more tightly than what is open before it
joined_signed : (m : ℕ) (s : Sign) (frames : List Frame) (inner : Expr) → m ≤ 7 → joined m (Signed s ∷ frames) inner ≡ joined m frames (expr.Signed s inner)
joined_signed m s frames inner le = let joins : nat_le m 7 ≡ true = le-leb m 7 le in rw joins refl

joined_binary : (m place : ℕ) (o : Operator) (frames : List Frame) (left right : Expr) → m ≤ level_of o → joined m (Left place o left ∷ frames) right ≡ joined m frames (expr.Binary place o left right)
joined_binary m place o frames left right le = let joins : nat_le m (level_of o) ≡ true = le-leb m (level_of o) le in rw joins refl

above_signs : (o : Operator) → 6 < level_of o → nat_le (level_of o) 7 ≡ false
above_signs Or above = absurd (omega (arith, above))
above_signs And above = absurd (omega (arith, above))
above_signs Equal above = absurd (omega (arith, above))
above_signs NotEqual above = absurd (omega (arith, above))
above_signs Less above = absurd (omega (arith, above))
above_signs LessEqual above = absurd (omega (arith, above))
above_signs Greater above = absurd (omega (arith, above))
above_signs GreaterEqual above = absurd (omega (arith, above))
above_signs Add above = absurd (omega (arith, above))
above_signs Subtract above = absurd (omega (arith, above))
above_signs Multiply above = absurd (omega (arith, above))
above_signs Divide above = absurd (omega (arith, above))
above_signs Remainder above = absurd (omega (arith, above))
above_signs Power above = refl

none_joins : (o : Operator) (frames : List Frame) (e : Expr) → floor frames < level_of o → joined (level_of o) frames e ≡ (frames, e)
none_joins o [] e above = refl
none_joins o (Group ∷ frames) e above = refl
none_joins o (Call at f ∷ frames) e above = refl
none_joins o (Signed s ∷ frames) e above = let stays : nat_le (level_of o) 7 ≡ false = above_signs o above in rw stays refl
none_joins o (Left at p left ∷ frames) e above = let stays : nat_le (level_of o) (level_of p) ≡ false = lt-leb (level_of o) (level_of p) above in rw stays refl

not_behind_power : (frames : List Frame) → floor frames < 7 → is_behind_power frames ≡ false
not_behind_power [] above = refl
not_behind_power (Group ∷ frames) above = refl
not_behind_power (Call at f ∷ frames) above = refl
not_behind_power (Signed s ∷ frames) above = refl
not_behind_power (Left at o left ∷ frames) above = ne_eqb (level_of o) 8 (λ same. omega (arith, same, above))

-- A tree was read from a place on. What is open and the operand may be parts of it, but each later joining makes the tree of them.
pub record Reads (tree : Expr) (at : ℕ) (text : List ℕ) (frames : List Frame) (more : List Lexeme) : Type 0 where
  pub stop : ℕ
  pub rest : List ℕ
  pub stack : List Frame
  pub operand : Expr
  pub is_run : run at text (Needs frames) ≡ run stop rest (Has stack operand)
  pub spelled : Spelled stop rest more
  pub joins : (m : ℕ) → m ≤ (grouping tree).level → joined m stack operand ≡ joined m frames tree

abbrev pub IsRead : Expr → Type 0
IsRead tree =
    (at : ℕ) (text : List ℕ) (frames : List Frame) (more : List Lexeme) → (grouping tree).holds ≡ true → floor frames < (grouping tree).level → ends_operand more ≡ true → Spelled at text (spelling tree ++ more)
    → Reads tree at text frames more

-- an operand of one lexeme
read_leaf : (tree : Expr) (at : ℕ) (text : List ℕ) (frames : List Frame) (one : Lexeme) (more : List Lexeme) → ends_operand more ≡ true
    → ((place stop : ℕ) (bytes rest : List ℕ) → stop ≡ place + length bytes → IsLexeme place bytes one → Heads is_mark rest → run place (bytes ++ rest) (Needs frames) ≡ run stop rest (Has frames tree))
    → Spelled at text (one ∷ more) → Reads tree at text frames more
read_leaf tree at text frames one more ends reads f =
    let place : ℕ = at + length f.blanks in
    let stop : ℕ = at + length f.blanks + length f.bytes in
    let blank = blanks_read f.blanks (f.bytes ++ f.rest) at place (Needs frames) refl f.all_blank (idle_needs frames) in
    let here = reads place stop f.bytes f.rest refl f.is_lexeme (mark_behind more stop f.rest ends f.behind) in
    record {
      stop = stop;
      rest = f.rest;
      stack = frames;
      operand = tree;
      is_run = ap (λ t. run at t (Needs frames)) f.is_text ∙ blank ∙ here;
      spelled = f.behind;
      joins = λ m le. refl;
    }

number_read : (place : ℕ) (units : Option ℤ) → IsRead (expr.Number place units)
number_read place units at text frames more holds above ends spelled =
    read_leaf (expr.Number place units) at text frames (Literal place units) more ends
    (λ here stop bytes rest end is mark. literal_reads here stop bytes rest units frames end is.1 is.2 mark ∙ ap (λ (p : ℕ). run stop rest (Has frames (expr.Number p units))) (sym is.0))
    (subst (λ xs. Spelled at text (xs ++ more)) (spells_number place units) spelled)

named_read : (place : ℕ) (name : List ℕ) → IsRead (expr.Named place name)
named_read place name at text frames more holds above ends spelled =
    read_leaf (expr.Named place name) at text frames (Name place name) more ends
    (λ here stop bytes rest end is mark. name_reads here stop bytes rest frames end (ap is_operand_name is.1 ∙ is.2) mark
    ∙ ap (λ (p : ℕ). run stop rest (Has frames (expr.Named p bytes))) (sym is.0) ∙ ap (λ (b : List ℕ). run stop rest (Has frames (expr.Named place b))) is.1)
    (subst (λ xs. Spelled at text (xs ++ more)) (spells_named place name) spelled)

-- what stands in parentheses, up to the closing one
pub record Closes (tree : Expr) (at : ℕ) (text : List ℕ) (inside frames : List Frame) (more : List Lexeme) : Type 0 where
  pub stop : ℕ
  pub rest : List ℕ
  pub is_run : run at text (Needs inside) ≡ run stop rest (Has frames tree)
  pub spelled : Spelled stop rest more

closes : (inner tree : Expr) (at : ℕ) (text : List ℕ) (inside frames : List Frame) (more : List Lexeme) → joined 0 inside inner ≡ (inside, inner) → close inside inner ≡ Some (Has frames tree)
    → Reads inner at text inside (Closing ∷ more) → Closes tree at text inside frames more
closes inner tree at text inside frames more stays shut r =
    let f : First r.stop r.rest Closing (λ place rest. Spelled place rest more) = r.spelled in
    let place : ℕ = r.stop + length f.blanks in
    let stop : ℕ = r.stop + length f.blanks + length f.bytes in
    let blank = blanks_read f.blanks (f.bytes ++ f.rest) r.stop place (Has r.stack r.operand) refl f.all_blank (idle_has r.stack r.operand) in
    let all : joined 0 r.stack r.operand ≡ (inside, inner) = r.joins 0 (omega arith) ∙ stays in
    let end = closing_reads place stop f.bytes f.rest r.stack inside frames r.operand inner tree f.is_lexeme refl all shut in
    record {
      stop = stop;
      rest = f.rest;
      is_run = r.is_run ∙ ap (λ t. run r.stop t (Has r.stack r.operand)) f.is_text ∙ blank ∙ end;
      spelled = f.behind;
    }

group_read : (inner : Expr) → IsRead inner → IsRead (expr.Group inner)
group_read inner again at text frames more holds above ends spelled =
    let f : First at text Opening (λ place rest. Spelled place rest ((spelling inner ++ Closing ∷ []) ++ more)) = subst (λ xs. Spelled at text (xs ++ more)) (spells_group inner) spelled in
    let place : ℕ = at + length f.blanks in
    let stop : ℕ = at + length f.blanks + length f.bytes in
    let blank = blanks_read f.blanks (f.bytes ++ f.rest) at place (Needs frames) refl f.all_blank (idle_needs frames) in
    let opened = opening_reads place stop f.bytes f.rest frames f.is_lexeme refl in
    let behind : Spelled stop f.rest (spelling inner ++ Closing ∷ more) = subst (λ xs. Spelled stop f.rest xs) (append_assoc (spelling inner) (Closing ∷ []) more) f.behind in
    let inner_holds : (grouping inner).holds ≡ true = ap (λ (x : Grouping). x.holds) (sym (groups_group inner)) ∙ holds in
    let c = closes inner (expr.Group inner) stop f.rest (Group ∷ frames) frames more refl refl (again stop f.rest (Group ∷ frames) (Closing ∷ more) inner_holds (some_level inner) refl behind) in
    record {
      stop = c.stop;
      rest = c.rest;
      stack = frames;
      operand = expr.Group inner;
      is_run = ap (λ t. run at t (Needs frames)) f.is_text ∙ blank ∙ opened ∙ c.is_run;
      spelled = c.spelled;
      joins = λ m le. refl;
    }

call_read : (place : ℕ) (f : Function) (inner : Expr) → IsRead inner → IsRead (expr.Call place f inner)
call_read place f inner again at text frames more holds above ends spelled =
    let name : First at text (FunctionName place f) (λ place rest. Spelled place rest (Opening ∷ ((spelling inner ++ Closing ∷ []) ++ more))) = subst (λ xs. Spelled at text (xs ++ more)) (spells_call place f inner) spelled in
    let here : ℕ = at + length name.blanks in
    let behind : ℕ = at + length name.blanks + length name.bytes in
    let blank = blanks_read name.blanks (name.bytes ++ name.rest) at here (Needs frames) refl name.all_blank (idle_needs frames) in
    let named = function_reads here behind name.bytes name.rest f frames refl name.is_lexeme.1 (opening_behind ((spelling inner ++ Closing ∷ []) ++ more) behind name.rest name.behind) in
    let moved : run behind name.rest (Called frames here f) ≡ run behind name.rest (Called frames place f) = ap (λ (p : ℕ). run behind name.rest (Called frames p f)) (sym name.is_lexeme.0) in
    let mark : First behind name.rest Opening (λ place rest. Spelled place rest ((spelling inner ++ Closing ∷ []) ++ more)) = name.behind in
    let place_of : ℕ = behind + length mark.blanks in
    let stop : ℕ = behind + length mark.blanks + length mark.bytes in
    let gap = blanks_read mark.blanks (mark.bytes ++ mark.rest) behind place_of (Called frames place f) refl mark.all_blank (idle_called frames place f) in
    let opened = call_reads place_of stop place mark.bytes mark.rest f frames mark.is_lexeme refl in
    let inside : Spelled stop mark.rest (spelling inner ++ Closing ∷ more) = subst (λ xs. Spelled stop mark.rest xs) (append_assoc (spelling inner) (Closing ∷ []) more) mark.behind in
    let inner_holds : (grouping inner).holds ≡ true = ap (λ (x : Grouping). x.holds) (sym (groups_call place f inner)) ∙ holds in
    let c = closes inner (expr.Call place f inner) stop mark.rest (Call place f ∷ frames) frames more refl refl (again stop mark.rest (Call place f ∷ frames) (Closing ∷ more) inner_holds (some_level inner) refl inside) in
    record {
      stop = c.stop;
      rest = c.rest;
      stack = frames;
      operand = expr.Call place f inner;
      is_run = ap (λ t. run at t (Needs frames)) name.is_text ∙ blank ∙ named ∙ moved ∙ ap (λ t. run behind t (Called frames place f)) mark.is_text ∙ gap ∙ opened ∙ c.is_run;
      spelled = c.spelled;
      joins = λ m le. refl;
    }

signed_read : (s : Sign) (inner : Expr) → IsRead inner → IsRead (expr.Signed s inner)
signed_read s inner again at text frames more holds above ends spelled =
    let f : First at text (SignMark s) (λ place rest. Spelled place rest (spelling inner ++ more)) = subst (λ xs. Spelled at text (xs ++ more)) (spells_signed s inner) spelled in
    let place : ℕ = at + length f.blanks in
    let stop : ℕ = at + length f.blanks + length f.bytes in
    let level : (grouping (expr.Signed s inner)).level ≡ 7 = ap (λ (x : Grouping). x.level) (groups_signed s inner) in
    let both : ((grouping inner).holds && nat_le 7 (grouping inner).level) ≡ true = ap (λ (x : Grouping). x.holds) (sym (groups_signed s inner)) ∙ holds in
    let inner_holds : (grouping inner).holds ≡ true = first_true (grouping inner).holds (nat_le 7 (grouping inner).level) both in
    let tight : 7 ≤ (grouping inner).level = leb-true 7 (grouping inner).level (second_true (grouping inner).holds (nat_le 7 (grouping inner).level) both) in
    let blank = blanks_read f.blanks (f.bytes ++ f.rest) at place (Needs frames) refl f.all_blank (idle_needs frames) in
    let signed = sign_reads s place stop f.bytes f.rest frames f.is_lexeme refl (not_behind_power frames (omega (arith, above, level))) in
    let r : Reads inner stop f.rest (Signed s ∷ frames) more = again stop f.rest (Signed s ∷ frames) more inner_holds (omega (arith, tight)) ends f.behind in
    record {
      stop = r.stop;
      rest = r.rest;
      stack = r.stack;
      operand = r.operand;
      is_run = ap (λ t. run at t (Needs frames)) f.is_text ∙ blank ∙ signed ∙ r.is_run;
      spelled = r.spelled;
      joins = λ m le. r.joins m (omega (arith, le, level, tight)) ∙ joined_signed m s frames inner (omega (arith, le, level));
    }

-- the operator behind a left operand
operator_read : (place : ℕ) (o : Operator) (left right : Expr) (frames : List Frame) (more : List Lexeme) (at : ℕ) (text : List ℕ) → floor frames < level_of o → level_of o ≤ (grouping left).level
    → (r : Reads left at text frames (OperatorMark place o ∷ (spelling right ++ more))) → (stop : ℕ) × (rest : List ℕ) × (run at text (Needs frames) ≡ run stop rest (Needs (Left place o left ∷ frames))) × Spelled stop rest (spelling right ++ more)
operator_read place o left right frames more at text above tight r =
    let f : First r.stop r.rest (OperatorMark place o) (λ place rest. Spelled place rest (spelling right ++ more)) = r.spelled in
    let here : ℕ = r.stop + length f.blanks in
    let stop : ℕ = r.stop + length f.blanks + length f.bytes in
    let blank = blanks_read f.blanks (f.bytes ++ f.rest) r.stop here (Has r.stack r.operand) refl f.all_blank (idle_has r.stack r.operand) in
    let head : Heads is_no_equals f.rest = start_behind (spelling right ++ more) stop f.rest (starts_more (spelling right) more (starts right)) f.behind in
    let read = operator_reads o here stop f.bytes f.rest r.stack r.operand f.is_lexeme.1 refl head in
    let joins : joined (level_of o) r.stack r.operand ≡ (frames, left) = r.joins (level_of o) tight ∙ none_joins o frames left above in
    let stands : with_operator here o r.stack r.operand ≡ Left place o left ∷ frames = ap (λ (p : List Frame × Expr). Left here o p.1 ∷ p.0) joins ∙ ap (λ (p : ℕ). Left p o left ∷ frames) (sym f.is_lexeme.0) in
    (stop, f.rest, r.is_run ∙ ap (λ t. run r.stop t (Has r.stack r.operand)) f.is_text ∙ blank ∙ read ∙ ap (λ fs. run stop f.rest (Needs fs)) stands, f.behind)

binary_read : (place : ℕ) (o : Operator) (left right : Expr) → IsRead left → IsRead right → IsRead (expr.Binary place o left right)
binary_read place o left right first second at text frames more holds above ends spelled =
    let level : (grouping (expr.Binary place o left right)).level ≡ level_of o = ap (λ (x : Grouping). x.level) (groups_binary place o left right) in
    let all : ((grouping left).holds && nat_le (level_of o) (grouping left).level && ((grouping right).holds && nat_lt (level_of o) (grouping right).level)) ≡ true = ap (λ (x : Grouping). x.holds) (sym (groups_binary place o left right)) ∙ holds in
    let on_left = first_true ((grouping left).holds && nat_le (level_of o) (grouping left).level) ((grouping right).holds && nat_lt (level_of o) (grouping right).level) all in
    let on_right = second_true ((grouping left).holds && nat_le (level_of o) (grouping left).level) ((grouping right).holds && nat_lt (level_of o) (grouping right).level) all in
    let left_holds : (grouping left).holds ≡ true = first_true (grouping left).holds (nat_le (level_of o) (grouping left).level) on_left in
    let left_tight : level_of o ≤ (grouping left).level = leb-true (level_of o) (grouping left).level (second_true (grouping left).holds (nat_le (level_of o) (grouping left).level) on_left) in
    let right_holds : (grouping right).holds ≡ true = first_true (grouping right).holds (nat_lt (level_of o) (grouping right).level) on_right in
    let right_tight : level_of o < (grouping right).level = ltb-true (level_of o) (grouping right).level (second_true (grouping right).holds (nat_lt (level_of o) (grouping right).level) on_right) in
    let below : floor frames < level_of o = omega (arith, above, level) in
    let parts : Spelled at text ((spelling left ++ (OperatorMark place o ∷ spelling right)) ++ more) = subst (λ xs. Spelled at text (xs ++ more)) (spells_binary place o left right) spelled in
    let ahead : Spelled at text (spelling left ++ (OperatorMark place o ∷ (spelling right ++ more))) = subst (λ xs. Spelled at text xs) (append_assoc (spelling left) (OperatorMark place o ∷ spelling right) more) parts in
    let m = operator_read place o left right frames more at text below left_tight (first at text frames (OperatorMark place o ∷ (spelling right ++ more)) left_holds (omega (arith, below, left_tight)) refl ahead) in
    let r : Reads right m.0 m.1 (Left place o left ∷ frames) more = second m.0 m.1 (Left place o left ∷ frames) more right_holds right_tight ends m.3 in
    record {
      stop = r.stop;
      rest = r.rest;
      stack = r.stack;
      operand = r.operand;
      is_run = m.2 ∙ r.is_run;
      spelled = r.spelled;
      joins = λ n le. r.joins n (omega (arith, le, level, right_tight)) ∙ joined_binary n place o frames left right (omega (arith, le, level));
    }

read_kinds : Kinds IsRead
read_kinds = record { number = number_read; named = named_read; group = group_read; call = call_read; signed = signed_read; binary = binary_read }

pub formula_read : (text : List ℕ) (tree : Expr) → IsFormula text tree → reading text ≡ Ok tree
formula_read text tree is =
    let spelled : Spelled 0 text (spelling tree ++ []) = subst (λ xs. Spelled 0 text xs) (sym (append-nil (spelling tree))) (from_front text (spelling tree) is.spelled) in
    let r : Reads tree 0 text [] [] = every_tree IsRead read_kinds tree 0 text [] [] is.grouped (some_level tree) refl spelled in
    let stop : ℕ = r.stop + length r.rest in
    let blank = blanks_read r.rest [] r.stop stop (Has r.stack r.operand) refl r.spelled (idle_has r.stack r.operand) in
    let all : joined 0 r.stack r.operand ≡ ([], tree) = r.joins 0 (omega arith) in
    let end : run stop [] (Has r.stack r.operand) ≡ Ok tree = ap (λ (p : List Frame × Expr). ok_or stop (whole p.0 p.1)) all in
    r.is_run ∙ ap (λ t. run r.stop t (Has r.stack r.operand)) (sym (append-nil r.rest)) ∙ blank ∙ end

pub one_tree : (text : List ℕ) (tree other : Expr) → IsFormula text tree → IsFormula text other → tree ≡ other
one_tree text tree other is too =
    let first = formula_read text tree is in
    let second = formula_read text other too in
    cc

-- what is parsed, by its length
parsed_reading : (text : List ℕ) (tree : Expr) → parsed text ≡ Ok tree → reading text ≡ Ok tree
unfolding parsed
parsed_reading text tree is = by_test (nat_le (length text) MAX_FORMULA_BYTES) is
  where
    by_test : (b : Bool) → cond b (reading text) (Err MAX_FORMULA_BYTES) ≡ Ok tree → reading text ≡ Ok tree
    by_test true e = e
    by_test false e = absurd (cc)

pub parsed_is_formula : (text : List ℕ) (tree : Expr) → parsed text ≡ Ok tree → IsFormula text tree
parsed_is_formula text tree is =
    let read = parsed_reading text tree is in
    record { spelled = run_told text [] 0 (Needs []) tree refl nothing read; grouped = run_is text 0 (Needs []) tree tt read }

pub formula_parsed : (text : List ℕ) (tree : Expr) → IsFormula text tree → length text ≤ MAX_FORMULA_BYTES → parsed text ≡ Ok tree
unfolding parsed
formula_parsed text tree is few =
    let short : nat_le (length text) MAX_FORMULA_BYTES ≡ true = le-leb (length text) MAX_FORMULA_BYTES few in
    rw short (formula_read text tree is)

pub longer_refused : (text : List ℕ) → MAX_FORMULA_BYTES < length text → parsed text ≡ Err MAX_FORMULA_BYTES
unfolding parsed
longer_refused text many = let long : nat_le (length text) MAX_FORMULA_BYTES ≡ false = lt-leb (length text) MAX_FORMULA_BYTES many in rw long refl
