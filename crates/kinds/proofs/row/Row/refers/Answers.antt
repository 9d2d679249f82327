use Rattle.std.proofs.Common.{◌≡◌, ℕ, ◌+◌, Bool, ◌&&◌, ◌||◌, ltb, leb, List, [], ◌∷◌, map, refl, ap, ◌∙◌, rules, tests}
use Rattle.std.specs.List.{list_any}
use Rattle.std.proofs.lemmas.Iterator.{YieldsList-from_slice}
use Rattle.std.proofs.lemmas.Iterator.Search.{any_from_yields_List}
use Rattle.kinds.specs.declared.run.Run.{Run}
use Rattle.kinds.specs.Shapes.{within}
use Rattle.kinds.specs.Runs.{run_pair}
use Rattle.kinds.proofs.row.Row.refers.Goals as goal

abbrev contains : ℕ → Run → Bool
contains field r = leb r.offset field && ltb field (r.offset + r.length)

-- A field lies in one of the runs just if one of them contains it.
any_within : (runs : List Run) (field : ℕ) → list_any (contains field) runs ≡ within (map run_pair runs) field
any_within [] field = refl
any_within (r ∷ runs) field = ap (λ x. contains field r || x) (any_within runs field)

pub returns : goal.returns
returns c =
    any_from_yields_List (contains c.args.field) _ _ _ c.any.ensures.ran (YieldsList-from_slice c.as_slice.result.now cc) (λ x b q k. search (rules, tests)) ∙
    any_within c.as_slice.result.now c.args.field ∙
    ap (λ runs. within (map run_pair runs) c.args.field) c.as_slice.ensures
