mod EndedLaws
