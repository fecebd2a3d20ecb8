mod Known
