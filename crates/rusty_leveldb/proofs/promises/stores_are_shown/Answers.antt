use Rattle.rusty_leveldb.proofs.Engines.SaysLemmas.{is_showing, open_says, stored_is_showing}
use Rattle.rusty_leveldb.proofs.promises.stores_are_shown.Goals as goal

pub returns-clause-laws : goal.returns-clause-laws
returns-clause-laws g c = record {
  laws = is_showing _ _ _;
  alike = (
    λ place disk store. (λ held. held, λ held. held),
    λ name files left. (λ honest. honest, λ honest. honest),
  );
}

pub returns-clause-disks : goal.returns-clause-disks
returns-clause-disks g c = stored_is_showing

pub returns-clause-opens : goal.returns-clause-opens
returns-clause-opens g c name asked from result to opened = open_says opened
