mod FittedLemmas
mod MeaningLemmas
