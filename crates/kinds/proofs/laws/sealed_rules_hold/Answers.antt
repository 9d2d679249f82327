use Rattle.kinds.proofs.Sealed.{few_kinds, lawful_kind}
use Rattle.kinds.proofs.laws.sealed_rules_hold.Goals as goal

pub returns : goal.returns
returns c = record { few_kinds = few_kinds; keep = lawful_kind }
