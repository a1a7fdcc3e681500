mod SaysLemmas
