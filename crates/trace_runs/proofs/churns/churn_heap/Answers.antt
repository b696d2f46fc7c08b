use Rattle.trace_runs.proofs.churns.churn_heap.Goals as goal

pub returns : goal.returns
returns c =
    record {
      regions = c.in-Ok.ensures.regions;
      region_words = c.in-Ok.ensures.region_words;
      mutators = c.in-Ok.ensures.mutators;
      helpers = c.in-Ok.ensures.helpers;
      reserve = c.in-Ok.ensures.reserve;
    }
