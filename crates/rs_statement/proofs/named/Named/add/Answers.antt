use Rattle.std.proofs.Common.{◌++◌, ◌∷◌, [], sym, subst}
use Rattle.std.specs.Prelude.{◌≡◌, false, OnOk}
use Rattle.std.specs.Map.{keys_of}
use Rattle.rs_catalog.specs.Catalog.{has_name}
use Rattle.rs_statement.proofs.named.Named.add.Goals as goal

pub insert-requires : goal.insert-requires
insert-requires g c = subst (λ n. has_name n (keys_of c.args.self.now.held.entries) ≡ false) (sym c.in-Ok.ensures) c.requires

pub returns-in-Ok-clause-ok : goal.returns-in-Ok-clause-ok
returns-in-Ok-clause-ok g c =
    subst (λ n. OnOk c.insert.result (c.insert.new.self.held.entries ≡ c.args.self.now.held.entries ++ (n, c.args.value) ∷ [])) c.in-Ok.ensures c.insert.ensures.ok
