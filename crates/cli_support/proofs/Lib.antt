mod SetBounds
