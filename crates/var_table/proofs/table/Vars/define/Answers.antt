use Rattle.std.proofs.Common.{◌≡◌, ◌∙◌, ◌-◌, ◌∷◌, ◌++◌, [], Some, None, List, length, set, true, false, ap, sym, refl, arith}
use Rattle.var_table.specs.Variables.{Named, is_there, leaves, place_from, put}
use Rattle.var_table.proofs.PlaceLemmas.{Absent, Placed, absent, named, placed}
use Rattle.var_table.proofs.table.Vars.define.Goals as goal

pub index_mut-requires : goal.index_mut-requires
index_mut-requires c =
    let table = c.self.inside.items.items in
    let e : place_from 0 table c.args.name.now ≡ Some c.in-Some.i = cc in
    omega (arith, (placed table c.args.name.now 0 c.in-Some.i e).within, c.deref.ensures.len, ap length c.deref.ensures.value)

pub returns-in_ok-push-in-None-clause-defined : goal.returns-in_ok-push-in-None-clause-defined
returns-in_ok-push-in-None-clause-defined c =
    let table = c.args.self.now in
    let name = c.args.name.now in
    let e : place_from 0 table name ≡ None = cc in
    let p : Absent table name = absent table name 0 e in
    let copied : c.new-variable.result ≡ named name c.args.style = c.new-variable.ensures ∙ ap (λ n. named n c.args.style) c.in_ok-copy-in-None.ensures in
    let new : c.push.new.self.items ≡ table ++ named name c.args.style ∷ [] =
    c.in_ok-push-in-None.ensures.items ∙ ap (λ (t : List Named). t ++ c.new-variable.result ∷ []) c.self.view_is ∙ ap (λ (v : Named). table ++ v ∷ []) copied in
    let none : is_there table name ≡ false = p.absent in
    let all : c.push.new.self.items ≡ put table name c.args.style = new ∙ sym (p.puts c.args.style) in
    rw none all

pub returns-then-not-leaves-clause-defined : goal.returns-then-not-leaves-clause-defined
returns-then-not-leaves-clause-defined c =
    let table = c.self.inside.items.items in
    let name = c.args.name.now in
    let e : place_from 0 table name ≡ Some c.in-Some.i = cc in
    let p : Placed table name 0 c.in-Some.i = placed table name 0 c.in-Some.i e in
    let there : is_there table name ≡ true = p.there in
    let anew : leaves c.args.style ≡ false = sym c.if-not-leaves.ensures in
    let at : c.in-Some.i - 0 ≡ c.in-Some.i = omega arith in
    let puts = rw at at (p.puts c.args.style c.index_mut.result.now) in
    let v : c.self.inside.items.items ≡ c.args.self.now = c.self.view_is in
    rw (← v, there, anew) (ap (set table c.in-Some.i) c.restyle.ensures ∙ sym (puts c.index_mut.ensures.value))

pub returns-else-not-leaves-clause-defined : goal.returns-else-not-leaves-clause-defined
returns-else-not-leaves-clause-defined c =
    let table = c.args.self.now in
    let name = c.args.name.now in
    let e : place_from 0 table name ≡ Some c.in-Some.i = cc in
    let there : is_there table name ≡ true = (placed table name 0 c.in-Some.i e).there in
    let stays : leaves c.args.style ≡ true = sym c.if-not-leaves.ensures in
    rw (there, stays) refl
