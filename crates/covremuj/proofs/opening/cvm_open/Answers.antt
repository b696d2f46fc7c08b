use Rattle.covremuj.proofs.opening.cvm_open.Goals as goal

pub returns-in-Ok-clause-opened : goal.returns-in-Ok-clause-opened
returns-in-Ok-clause-opened c is_done =
    let sizes = c.in-Ok.ensures in (
      c.in-Ok.config,
      record { regions = sizes.regions; region_words = sizes.region_words; mutators = sizes.mutators; helpers = sizes.helpers; reserve = sizes.reserve },
      c.open_into.ensures.opened is_done,
    )
