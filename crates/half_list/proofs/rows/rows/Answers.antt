use Rattle.std.proofs.Common.{◌≡◌, ◌+◌, ◌++◌, ◌∷◌, [], ℕ, List, length, rules, sym, ap, ◌∙◌, subst}
use Rattle.cell_bins.specs.Bins.{sites_of}
use Rattle.half_list.specs.Rows.{HasRows}
use Rattle.half_list.proofs.RowLemmas.{rows_step}
use Rattle.half_list.proofs.rows.rows.Goals as goal

pub loop-site-preserved : goal.loop-site-preserved
loop-site-preserved c =
    let own = c.args.own.now in
    let sites = sites_of c.args.bins.now in
    let starts = c.loop-site.starts.items in
    let new = c.push_row.new.places.items in
    let count : c.len.result ≡ length new = search rules in
    let pushed : c.push-in-loop-site.new.self.items ≡ starts ++ c.len.result ∷ [] = c.in_ok-push-2.ensures.items in
    subst (λ (l : List ℕ). HasRows c.args.reach own sites (c.loop-site.site-index + 1) l new)
    (sym (pushed ∙ ap (λ (n : ℕ). starts ++ n ∷ []) count))
    (rows_step c.args.reach own sites c.loop-site.site-index starts c.loop-site.places.items new _ c.loop-site.invariant c.loop-site-test.true c.in_ok-push_row.ensures)
