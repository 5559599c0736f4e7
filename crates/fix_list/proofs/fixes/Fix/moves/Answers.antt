use Rattle.std.proofs.Common.{◌≡◌, ◌∙◌, nat_eq, is_ok, sym, subst, ap, List, ℕ}
use Rattle.std.specs.List.{list_any}
use Rattle.box_geo.specs.Ids.{Rises}
use Rattle.fix_list.proofs.SearchLemmas.{found-any}
use Rattle.fix_list.proofs.fixes.Fix.moves.Goals as goal

pub returns : goal.returns
returns c =
    let rises : Rises c.ids.result.now = subst (λ (ids : List ℕ). Rises ids) (sym c.ids.ensures) c.requires in
    let found : is_ok c.binary_search.result ≡ list_any (λ x. nat_eq x c.args.id) c.ids.result.now = found-any c.ids.result.now c.args.id c.binary_search.result c.binary_search.ensures.position rises in
    c.is_ok.ensures.value ∙ found ∙ ap (λ (ids : List ℕ). list_any (λ x. nat_eq x c.args.id) ids) c.ids.ensures
